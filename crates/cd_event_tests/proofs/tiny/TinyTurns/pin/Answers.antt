use Rattle.std.proofs.Common.{true}
use Rattle.cd_event_tests.proofs.States.{pin_is_added, all_are_states}
use Rattle.cd_event_tests.proofs.tiny.TinyTurns.pin.Goals as goal

pub returns-in-Ok-note-clause-named : goal.returns-in-Ok-note-clause-named
returns-in-Ok-note-clause-named g c = pin_is_added g.H.Hash32.digest_of c.args.self.now.pinned c.empty_info-root.result c.if-self.false c.empty_info-root.ensures

pub returns-in-Ok-note-clause-states : goal.returns-in-Ok-note-clause-states
returns-in-Ok-note-clause-states g c = all_are_states g.H.Hash32.digest_of c.note-2.new.self.journal true
