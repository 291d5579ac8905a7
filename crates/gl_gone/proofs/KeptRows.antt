-- What is kept for what may be destroyed.
use Rattle.std.proofs.Common.{◌≡◌, ℕ, List, [], ◌∷◌, ◌++◌, Some, sym, ap, subst, ◌∙◌}
use Rattle.std.specs.Prelude.{option_map}
use Rattle.gl_arena.specs.Id.{Id}
use Rattle.gl_arena.specs.Arena.{Arena, named, by_stamp, IsStamped}
use Rattle.gl_arena.proofs.Stamps.{by_stamp-live}
use Rattle.gl_mods.specs.Mods as m
use Rattle.gl_vm.specs.declared.vm.Vm.{Vm}
use Rattle.gl_gone.specs.View.{line_of, IsKept, AllKept}
use Rattle.gl_gone.specs.declared.endings.Ending.{Ending}

-- a live modifier
pub modifier_kept : (a : Arena m.Installed) (i : Id) (x : m.Installed) → IsStamped a → named a i ≡ Some x → option_map line_of (by_stamp a i.1) ≡ Some (x.node.1, x.name)
modifier_kept a i x st h = ap (option_map line_of) (by_stamp-live a i x st h)

at_end : (vm : Vm) (xs : List Ending) (x : Ending) → IsKept vm x → AllKept vm xs → AllKept vm (xs ++ x ∷ [])
at_end vm [] x k h = (k, tt)
at_end vm (y ∷ ys) x k h = (h.0, at_end vm ys x k h.1)

pub kept_more : (vm : Vm) (xs ys : List Ending) (x : Ending) → ys ≡ xs ++ x ∷ [] → IsKept vm x → AllKept vm xs → AllKept vm ys
kept_more vm xs ys x e k h = subst (AllKept vm) (sym e) (at_end vm xs x k h)
