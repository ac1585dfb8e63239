-- What is told of slots is told of the program.
use Rattle.slot_replay.specs.declared.fault.ReplayFault.{ReplayFault as SlotFault}
use Rattle.slot_replay.specs.declared.fault.ReplayFault.TheVariants as slots
use Rattle.program_replay.specs.declared.fault.ReplayFault.{ReplayFault}
use Rattle.program_replay.specs.declared.fault.ReplayFault.TheVariants as faults

abbrev pub of_slots : SlotFault → ReplayFault
of_slots (slots.Past at instant past) = faults.Past at instant past
of_slots slots.Memory = faults.Memory
