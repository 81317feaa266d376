-- What a handle owns.
use base.Fml.{Fml, ftrue, fex}
use denote.RawPtr.{Ptr, block_ptr, null_ptr}
use Rattle.std.specs.declared.option.Option.{Option}
use Rattle.std.specs.declared.option.Option.TheVariants.{None, Some}
use Rattle.std.specs.declared.alloc.Global.{Global}
use Rattle.std.specs.contracts.impls.GlobalAllocator.TheImpl.{ghosts}
use Rattle.std_alloc.specs.Box.Ownership.{box_owns}
use Rattle.fedbundle_c.specs.contracts.held_replica.Replica.{the_row}
use Rattle.fedbundle_c.specs.declared.held_replica.Replica.{Replica}

-- nothing at null; otherwise the box of a replica
abbrev pub handle_owns : Global → Ptr → Option Replica → Fml
handle_owns a null_ptr None = ftrue
handle_owns a (block_ptr b o) (Some x) = box_owns (ghosts.dealloc_token a) the_row (block_ptr b o) x
handle_owns a null_ptr (Some x) = fex ⊥ (λ _. ftrue)
handle_owns a (block_ptr b o) None = fex ⊥ (λ _. ftrue)
