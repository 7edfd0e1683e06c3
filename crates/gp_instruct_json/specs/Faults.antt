-- The faults of the parts, as faults of a body. Want of memory is one fault.
use Rattle.gp_json.specs.declared.fault.TextFault.{TextFault}
use Rattle.gp_json.specs.declared.fault.TextFault.TheVariants.{NotJson as TextNotJson, NoMemory as TextNoMemory}
use Rattle.gp_json.specs.declared.fault.MemberFault.{MemberFault}
use Rattle.gp_json.specs.declared.fault.MemberFault.TheVariants.{Member as OneMember, Base64 as OneBase64, NoMemory as MemberNoMemory}
use Rattle.gp_instruct.specs.declared.fault.InstructFault.{InstructFault}
use Rattle.gp_instruct.specs.declared.fault.InstructFault.TheVariants.{Mode, Channel, NoChannel, TooMany, Reliable, Timeout, Status, Link, NoMemory as InstructNoMemory}
use Rattle.gp_instruct_json.specs.declared.fault.JsonFault.{JsonFault}
use Rattle.gp_instruct_json.specs.declared.fault.JsonFault.TheVariants.{NotJson, Member, Base64, Instruct, NoMemory}

abbrev pub text_fault : TextFault → JsonFault
text_fault TextNotJson = NotJson
text_fault TextNoMemory = NoMemory

abbrev pub member_fault : MemberFault → JsonFault
member_fault (OneMember name) = Member name
member_fault (OneBase64 name) = Base64 name
member_fault MemberNoMemory = NoMemory

abbrev pub instruct_fault : InstructFault → JsonFault
instruct_fault Mode = Instruct Mode
instruct_fault (Channel fault) = Instruct (Channel fault)
instruct_fault NoChannel = Instruct NoChannel
instruct_fault (TooMany n) = Instruct (TooMany n)
instruct_fault (Reliable n) = Instruct (Reliable n)
instruct_fault Timeout = Instruct Timeout
instruct_fault Status = Instruct Status
instruct_fault (Link place) = Instruct (Link place)
instruct_fault InstructNoMemory = NoMemory
