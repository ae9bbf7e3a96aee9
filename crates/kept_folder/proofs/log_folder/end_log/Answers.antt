use Rattle.std.proofs.Common.{rules}
use Rattle.kept_folder.proofs.Tearing.{ended_behind}
use Rattle.kept_folder.proofs.log_folder.end_log.Goals as goal

pub returns : goal.returns
returns g c = record {
  ended = (
    c.in_ok-device.bytes.items,
    c.in_ok-device.ensures.held,
    ended_behind c.in_ok-device.bytes.items _ _ _ c.in_ok-end.end.items _ _ c.in_ok-records.records.items c.in_ok-records.taken _ c.in_ok-device.ensures.read c.deref.ensures.value c.in_ok-records.ensures.front c.in_ok-records.ensures.all
        c.new.ensures.appended c.in_ok-log.ensures (search rules) (search rules) c.in_ok-end.ensures,
  );
}
