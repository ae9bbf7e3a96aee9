-- What a server asks of another one's vnode (this store's profile).
use Rattle.peer_remote.specs.declared.message.Ask.{Ask}
use Rattle.peer_remote.specs.declared.message.Ask.TheVariants as ask
use Rattle.peer_remote.specs.declared.message.Question.{Question}
use Rattle.peer_remote.specs.declared.message.Question.TheVariants.{Put, Merge, Read, Summary, Part}

-- the question that what is lent asks
abbrev pub question_of : Ask → Question
question_of (ask.Put vnode key seen content) = Put vnode key.now seen.now content.now
question_of (ask.Merge vnode key from at state) = Merge vnode key.now from at state.now
question_of (ask.Read vnode key) = Read vnode key.now
question_of (ask.Summary vnode key) = Summary vnode key.now
question_of (ask.Part vnode key from at part) = Part vnode key.now from at part.now
