-- What an answer tells of a part, of what stands a step further down, and of the whole.
use Rattle.std.proofs.Common.{◌≡◌, ◌++◌, ◌∷◌, [], List, Result, Ok, Err, refl, sym, ap, ◌∙◌, append_assoc, append-nil}
use Rattle.gl_base.specs.Texts.{Text}
use Rattle.gl_meaning.specs.Walk.{Found, under, ◌then◌}
use Rattle.gl_shape.specs.View.{Tells, IsUnder, IsFaultUnder}
use Rattle.gl_shape.specs.declared.fault.PlaceFault.{PlaceFault}
use Rattle.gl_shape.specs.declared.fault.PlaceFault.TheVariants as v

fault_under : {X A : Type 0} (view : X → A) (step p : Text) (new : Result X PlaceFault) → IsFaultUnder step p new → Tells view new (Err (step ++ p))
fault_under view step p (Ok x) h = absurd h
fault_under view step p (Err (v.At q)) h = ap Err (sym h)
fault_under view step p (Err v.Memory) h = tt

pub tells_under : {X A : Type 0} (view : X → A) (step : Text) (part new : Result X PlaceFault) (found : Found A) → IsUnder step part new → Tells view part found → Tells view new (under step found)
tells_under view step (Ok x) new found e h = rw (e, h) refl
tells_under view step (Err (v.At p)) new found e h = rw h (fault_under view step p new e)
tells_under view step (Err v.Memory) new found e h = rw e tt

-- the fault of a part is that of the whole
pub tells_fault : {X Y A B : Type 0} (view : X → A) (seen : Y → B) (e : PlaceFault) (found : Found A) (rest : A → Found B) → Tells view (Err e) found → Tells seen (Err e) (found then rest)
tells_fault view seen (v.At p) found rest h = rw h refl
tells_fault view seen v.Memory found rest h = tt

pub ruleset walks = (tells_under, tells_fault)

-- a reading that goes on after what is read already
abbrev pub after_found : {A : Type 0} → List A → Found (List A) → Found (List A)
after_found front found = found then λ rest. Ok (front ++ rest)

-- what was read is added to what is read
pub found_go : {A : Type 0} (done : List A) (y : A) (part : Found A) (rest all : Found (List A)) → part ≡ Ok y → after_found done (part then λ x. (rest then λ xs. Ok (x ∷ xs))) ≡ all → after_found (done ++ y ∷ []) rest ≡ all
found_go done y part (Ok xs) all is e = ap Ok (append_assoc done (y ∷ []) xs) ∙ rw is at e
found_go done y part (Err p) all is e = rw is at e

-- the fault of the next is that of all
pub found_fail : {X Y A : Type 0} (view : X → A) (seen : Y → List A) (e : PlaceFault) (done : List A) (part : Found A) (rest all : Found (List A)) → Tells view (Err e) part → after_found done (part then λ x. (rest then λ xs. Ok (x ∷ xs))) ≡ all → Tells seen (Err e) all
found_fail view seen (v.At p) done part rest all h e = sym (rw h at e)
found_fail view seen v.Memory done part rest all h e = tt

-- nothing is left
pub found_end : {A : Type 0} (done : List A) (all : Found (List A)) → after_found done (Ok []) ≡ all → all ≡ Ok done
found_end done all e = sym e ∙ ap Ok (append-nil done)
