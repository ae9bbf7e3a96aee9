use Rattle.std.proofs.Common.{ap, sym, subst, List, ℕ, Err}
use Rattle.context_token.specs.Token.{read_bytes, read_decoded, Gives}
use Rattle.context_token.proofs.Tokens.{reads_again, reads_canonical}
use Rattle.context_token.proofs.reading.read_bytes.Goals as goal

pub returns-in-Ok-clause-canonical : goal.returns-in-Ok-clause-canonical
returns-in-Ok-clause-canonical c = reads_canonical _ _ _ c.in-Ok.ensures.bytes c.in-Ok.ensures.text (subst (λ (bytes : List ℕ). Gives c.clock_of.result (read_bytes bytes)) c.deref.ensures.value c.clock_of.ensures)

pub returns-in-Ok-clause-reads : goal.returns-in-Ok-clause-reads
returns-in-Ok-clause-reads c = reads_again _ _ (subst (Gives c.clock_of.result) (sym (ap read_decoded c.in-Ok.ensures.ok)) (subst (λ (bytes : List ℕ). Gives c.clock_of.result (read_bytes bytes)) c.deref.ensures.value c.clock_of.ensures))

pub returns-in-Err-clause-reads : goal.returns-in-Err-clause-reads
returns-in-Err-clause-reads c = reads_again c.args.text.now (Err c.in-Err.fault) c.in-Err.ensures.err
