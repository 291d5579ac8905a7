-- The cell of a field, by its number.
use Rattle.std.proofs.Common.{◌≡◌, ℕ, zero, suc, ◌<◌, List, [], ◌∷◌, length, Option, Some, None, option_map, slice_get, ap, arith}
use Rattle.gl_base.specs.Texts.{Text}
use Rattle.gl_arena.specs.Id.{Id}
use Rattle.gl_plain.specs.State.{named_as}
use Rattle.gl_machine.specs.Mach.{Run}
use Rattle.gl_machine.specs.Step as s
use Rattle.gl_vm.specs.View.{stamps}

pub found_by : (ns : List Text) (ids : List Id) (k : ℕ) (i : Id) (f : ℕ → Run) → k < length ns → slice_get ids k ≡ Some i → s.given (slice_get (named_as ns (stamps ids)) k) (λ c. f c.1) ≡ f i.1
found_by [] ids k i f l e = absurd (omega (arith, l))
found_by (n ∷ ns) [] k i f l e = let no : None ≡ Some i = e in absurd (cc)
found_by (n ∷ ns) (x ∷ xs) zero i f l e = let pair : Id → Text × ℕ = λ j. (n, j.1) in ap (λ (o : Option Id). s.given (option_map pair o) (λ c. f c.1)) e
found_by (n ∷ ns) (x ∷ xs) (suc k) i f l e = found_by ns xs k i f (omega (arith, l)) e
