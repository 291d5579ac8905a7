-- What the list operations make of the stamps of the trees, as functions on lists.
use Rattle.std.proofs.Common.{◌≡◌, ◌≢◌, ◌+◌, ◌<◌, ◌≤◌, [], ◌∷◌, ◌++◌, Option, Some, None, sym, ap, ◌∙◌, inl, inr, arith}
use Rattle.std.specs.Prelude.{if◌then◌else◌}
use Rattle.std.proofs.lemmas.Bool.{cases_eq}
use Rattle.gl_arena.specs.Id.{Id}
use Rattle.gl_arena.proofs.Ids.{same_id-other}
use Rattle.gl_nodes.specs.Forest.{Forest, end, tree, joined, times_top, until, from, through, past, put_before, run, without, moved, IsAmong, IsRun}
use Rattle.gl_nodes.specs.Flat.{stands, tops, stamp_of, before, onward, up_to, beyond, run_from, cut, placed_run, shifted}
use Rattle.gl_nodes.proofs.Counts.{hit-other}
use Rattle.gl_nodes.proofs.Cutting.{until-from}
use Rattle.gl_nodes.proofs.Flats.{test-same, test-other, first_is, stands-joined, stands-without, tops-joined}

-- the cut before a tree
pub until-before : (x : Id) (f : Forest) → 0 < times_top x f → stands x.1 f ≤ 1 → (tops (until x f) ≡ before x.1 (tops f)) × (tops (from x f) ≡ onward x.1 (tops f))
until-before x end lt once = absurd (omega arith)
until-before x (tree j k r) lt once = elim (cases_eq j.1 x.1) [
  | inl e ↦
      let t = first_is x j k r lt once e in
      let b = test-same j.1 x.1 e in (
        ap (λ b. tops (if b then end else tree j k (until x r))) t ∙ sym (ap (λ b. if b then [] else j.1 ∷ before x.1 (tops r)) b),
        ap (λ b. tops (if b then tree j k r else from x r)) t ∙ sym (ap (λ b. if b then j.1 ∷ tops r else onward x.1 (tops r)) b),
      )
  | inr ne ↦
      let off : j ≢ x = λ q. ne (ap (λ z. z.1) q) in
      let t = same_id-other j x off in
      let b = test-other j.1 x.1 ne in
      let z = hit-other x j (λ q. off (sym q)) in
      let q = until-before x r (omega (arith, lt, z)) (omega (arith, once)) in (
        ap (λ b. tops (if b then end else tree j k (until x r))) t ∙ (ap (λ l. j.1 ∷ l) q.0 ∙ sym (ap (λ b. if b then [] else j.1 ∷ before x.1 (tops r)) b)),
        ap (λ b. tops (if b then tree j k r else from x r)) t ∙ (q.1 ∙ sym (ap (λ b. if b then j.1 ∷ tops r else onward x.1 (tops r)) b)),
      )
]

-- the cut after a tree
pub past-beyond : (y : Id) (f : Forest) → 0 < times_top y f → stands y.1 f ≤ 1 → (tops (through y f) ≡ up_to y.1 (tops f)) × (tops (past y f) ≡ beyond y.1 (tops f))
past-beyond y end lt once = absurd (omega arith)
past-beyond y (tree j k r) lt once = elim (cases_eq j.1 y.1) [
  | inl e ↦
      let t = first_is y j k r lt once e in
      let b = test-same j.1 y.1 e in (
        ap (λ b. tops (if b then tree j k end else tree j k (through y r))) t ∙ sym (ap (λ b. if b then j.1 ∷ [] else j.1 ∷ up_to y.1 (tops r)) b),
        ap (λ b. tops (if b then r else past y r)) t ∙ sym (ap (λ b. if b then tops r else beyond y.1 (tops r)) b),
      )
  | inr ne ↦
      let off : j ≢ y = λ q. ne (ap (λ z. z.1) q) in
      let t = same_id-other j y off in
      let b = test-other j.1 y.1 ne in
      let z = hit-other y j (λ q. off (sym q)) in
      let q = past-beyond y r (omega (arith, lt, z)) (omega (arith, once)) in (
        ap (λ b. tops (if b then tree j k end else tree j k (through y r))) t ∙ (ap (λ l. j.1 ∷ l) q.0 ∙ sym (ap (λ b. if b then j.1 ∷ [] else j.1 ∷ up_to y.1 (tops r)) b)),
        ap (λ b. tops (if b then r else past y r)) t ∙ (q.1 ∙ sym (ap (λ b. if b then tops r else beyond y.1 (tops r)) b)),
      )
]

-- a run, and the others
pub without-cut : (x y : Id) (f : Forest) → IsRun x y f → ((z : Id) → stands z.1 f ≤ 1) → (tops (without x y f) ≡ cut x.1 y.1 (tops f)) × (tops (run x y f) ≡ run_from x.1 y.1 (tops f))
without-cut x y f is once =
    let q = until-before x f is.starts (once x) in
    let split : stands y.1 f ≡ stands y.1 (until x f) + stands y.1 (from x f) = ap (stands y.1) (sym (until-from x f)) ∙ stands-joined y.1 (until x f) (from x f) in
    let o = once y in
    let w = past-beyond y (from x f) is.ends (omega (arith, split, o)) in (
      tops-joined (until x f) (past y (from x f)) ∙ (ap (λ l. l ++ tops (past y (from x f))) q.0 ∙ ap (λ l. before x.1 (tops f) ++ l) (w.1 ∙ ap (beyond y.1) q.1)),
      w.0 ∙ ap (up_to y.1) q.1,
    )

-- trees put in before another
pub put_before-run : (next : Option Id) (g f : Forest) → IsAmong next f → ((z : Id) → stands z.1 f ≤ 1) → tops (put_before next g f) ≡ placed_run (stamp_of next) (tops g) (tops f)
put_before-run None g f among once = tops-joined f g
put_before-run (Some x) g f among once =
    let q = until-before x f among (once x) in
    tops-joined (until x f) (joined g (from x f)) ∙ (ap (λ l. l ++ tops (joined g (from x f))) q.0 ∙ ap (λ l. before x.1 (tops f) ++ l) (tops-joined g (from x f) ∙ ap (λ l. tops g ++ l) q.1))

-- a run put in before another
pub moved-shifted : (x y : Id) (next : Option Id) (f : Forest) → IsRun x y f → IsAmong next (without x y f) → ((z : Id) → stands z.1 f ≤ 1) → tops (moved x y next f) ≡ shifted x.1 y.1 (stamp_of next) (tops f)
moved-shifted x y next f is among once =
    let t = without-cut x y f is once in
    put_before-run next (run x y f) (without x y f) among (λ z. let w = stands-without z.1 x y f in let o = once z in omega (arith, w, o))
    ∙ (ap (λ l. placed_run (stamp_of next) l (tops (without x y f))) t.1 ∙ ap (placed_run (stamp_of next) (run_from x.1 y.1 (tops f))) t.0)
