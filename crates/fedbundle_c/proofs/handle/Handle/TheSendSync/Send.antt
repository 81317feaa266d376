-- What a handle owns says the same to every thread.
use mir.Raw.{raw}
use base.Fraction.{full_share}
use base.Shift.{Keyless}
use denote.Memory.{lone}
use denote.RawPtr.{Ptr, block_ptr, null_ptr}
use denote.Param.Send.{IsSend, AllSend, part_keyless, owning_send, struct_send, sendable}
use denote.Struct.Owning.{shape, fields, to}
use denote.Struct.Struct.{exits_of}
use Rattle.std.specs.declared.alloc.Global.{Global}
use Rattle.std.specs.declared.option.Option.{Option}
use Rattle.std.specs.declared.option.Option.TheVariants.{None, Some}
use Rattle.std.proofs.alloc.Global.TheSendSync as heap
use Rattle.std.proofs.Crossing.{frees}
use Rattle.std_alloc.proofs.SendSync.{quiet}
use Rattle.fedbundle_c.specs.Holding.{handle_owns}
use Rattle.fedbundle_c.specs.contracts.held_replica.Replica as held
use Rattle.fedbundle_c.specs.contracts.handle.Handle.{the_row, the_type}
use Rattle.fedbundle_c.proofs.held_replica.Replica.TheSendSync as replica

held_keyless : (a : Global) (p : Ptr) (x : Option held.the_row.Denot) → Keyless (handle_owns a p x)
held_keyless a null_ptr None = tt
held_keyless a (block_ptr b o) (Some y) = (
  part_keyless held.the_row replica.the_send full_share y b o,
  frees.frees a
      (raw (lone held.the_row.mir)) (block_ptr b o),
)
held_keyless a null_ptr (Some y) = λ e. absurd e
held_keyless a (block_ptr b o) None = λ e. absurd e

pub send : IsSend the_row
send = let all : AllSend (fields the_type) = (search sendable, (heap.the_field_send, tt)) in
    owning_send the_type all (λ d. held_keyless d.alloc d.at d.value)
    (λ k. quiet (to the_type) (exits_of k (fields the_type)) ((struct_send (shape the_type) all).leaving k))
