-- The types of what a parser hands out, as whoever proves something over a parser names them.
pub use Rattle.saphyr_machine.specs.declared.event.Event
pub use Rattle.saphyr_machine.specs.declared.tag.Tag
pub use Rattle.saphyr_machine.specs.declared.fault.Fault
pub use Rattle.saphyr_machine.specs.declared.receiver.Refused
