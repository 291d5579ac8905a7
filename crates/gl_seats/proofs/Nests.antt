-- Nests side by side, and what is nested in a forest.
use Rattle.std.proofs.Common.{◌≡◌, ℕ, ◌+◌, ◌<◌, [], ◌∷◌, ◌++◌, Some, refl, sym, ap, ◌∙◌, arith}
use Rattle.std.specs.Prelude.{unwrap_or}
use Rattle.gl_nodes.specs.Forest as f
use Rattle.gl_nodes.specs.Forest.{Forest}
use Rattle.gl_nodes.specs.Flat as t
use Rattle.gl_nodes.specs.Flat.{stands, kids, IsRead}
use Rattle.gl_nodes.proofs.Flats.{stamp-same, head_is, tail_of}
use Rattle.gl_machine.specs.Shape.{Nest, end, tree, joined}
use Rattle.gl_code.specs.Hung.{tops, stands_in, nest_of}
use Rattle.gl_seats.specs.Seats.{Nested}

pub tops-joined : (x y : Nest ℕ) → tops (joined x y) ≡ tops x ++ tops y
tops-joined end y = refl
tops-joined (tree s k r) y = ap (λ l. s ∷ l) (tops-joined r y)

pub stands_in-joined : (q : ℕ) (x y : Nest ℕ) → stands_in q (joined x y) ≡ stands_in q x + stands_in q y
stands_in-joined q end y = omega arith
stands_in-joined q (tree s k r) y = let e = stands_in-joined q r y in omega (arith, e)

pub joined_end : (x : Nest ℕ) → joined x end ≡ x
joined_end end = refl
joined_end (tree s k r) = ap (tree s k) (joined_end r)

pub joined_assoc : (x y z : Nest ℕ) → joined (joined x y) z ≡ joined x (joined y z)
joined_assoc end y z = refl
joined_assoc (tree s k r) y z = ap (tree s k) (joined_assoc r y z)

pub nested_both : (f : Forest) (x y : Nest ℕ) → Nested f x → Nested f y → Nested f (joined x y)
nested_both f end y a b = b
nested_both f (tree s k r) y a b = (a.0, a.1, nested_both f r y a.2 b)

pub nested_parts : (f : Forest) (x y : Nest ℕ) → Nested f (joined x y) → Nested f x × Nested f y
nested_parts f end y a = (tt, a)
nested_parts f (tree s k r) y a = let q = nested_parts f r y a.2 in ((a.0, a.1, q.0), q.1)

pub nested_same : (f g : Forest) (x : Nest ℕ) → ((s : ℕ) → 0 < stands_in s x → kids (Some s) g ≡ kids (Some s) f) → Nested f x → Nested g x
nested_same f g end same a = tt
nested_same f g (tree s k r) same a = (
  same s (let one = stamp-same s in omega (arith, one)) ∙ a.0,
  nested_same f g k (λ q lt. same q (omega (arith, lt))) a.1,
  nested_same f g r (λ q lt. same q (omega (arith, lt))) a.2,
)

-- a fact of one number is that of another which is the same
pub of_some : (s q : ℕ) → Some s ≡ Some q → s ≡ q
of_some s q e = ap (λ o. unwrap_or o 0) e

-- The forest as a nest.

pub tops-nest_of : (x : Forest) → tops (nest_of x) ≡ t.tops x
tops-nest_of f.end = refl
tops-nest_of (f.tree i k r) = ap (λ l. i.1 ∷ l) (tops-nest_of r)

pub stands_in-nest_of : (s : ℕ) (x : Forest) → stands_in s (nest_of x) ≡ stands s x
stands_in-nest_of s f.end = refl
stands_in-nest_of s (f.tree i k r) = let a = stands_in-nest_of s k in let b = stands_in-nest_of s r in omega (arith, a, b)

pub nested-nest_of : (g x : Forest) → IsRead (λ s. kids (Some s) g) x → Nested g (nest_of x)
nested-nest_of g f.end h = tt
nested-nest_of g (f.tree i k r) h = (h.0 ∙ sym (tops-nest_of k), nested-nest_of g k h.1, nested-nest_of g r h.2)

-- a nest that is read off the look-ups of a forest is that forest
pub nest_is : (g x : Forest) (n : Nest ℕ) → IsRead (λ s. kids (Some s) g) x → Nested g n → t.tops x ≡ tops n → nest_of x ≡ n
nest_is g f.end end h w e = refl
nest_is g f.end (tree s k r) h w e = absurd (let no : [] ≡ s ∷ tops r = e in cc)
nest_is g (f.tree i k r) end h w e = absurd (let no : i.1 ∷ t.tops r ≡ [] = e in cc)
nest_is g (f.tree i k r) (tree s m o) h w e =
    let at : i.1 ≡ s = head_is i.1 s (t.tops r) (tops o) e in
    let below = nest_is g k m h.1 w.1 (sym h.0 ∙ (ap (λ q. kids (Some q) g) at ∙ w.0)) in
    let after = nest_is g r o h.2 w.2 (ap tail_of e) in λ z. tree (at z) (below z) (after z)
