-- Why messages aren't read.
use Rattle.record_codec.specs.declared.fault.WireFault.{WireFault}
use Rattle.record_codec.specs.declared.fault.WireFault.TheVariants as wire
use Rattle.peer_messages.specs.declared.fault.Unread.{Unread}
use Rattle.peer_messages.specs.declared.fault.Unread.TheVariants as unread

-- what a fault of a record's fields is for a message
abbrev pub unread_of : WireFault → Unread
unread_of wire.Cut = unread.Malformed
unread_of wire.Mark = unread.Malformed
unread_of wire.Digest = unread.Malformed
unread_of wire.NotCanonical = unread.Malformed
unread_of wire.NoMemory = unread.NoMemory
