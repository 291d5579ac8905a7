-- Faults of a turn, as an event answers them.
use Rattle.gl_code.specs.declared.fault.VmFault.{VmFault}
use Rattle.gl_code.specs.declared.fault.VmFault.TheVariants as vm
use Rattle.gl_session.specs.declared.fault.EventFault.{EventFault}
use Rattle.gl_session.specs.declared.fault.EventFault.TheVariants as event

abbrev pub event_fault : VmFault → EventFault
event_fault vm.NestingLimit = event.NestingLimit
event_fault vm.Memory = event.Memory
