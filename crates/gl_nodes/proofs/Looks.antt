-- "Here and others" as equations of functions, and what each call makes of the two look-ups.
use Rattle.std.proofs.Common.{◌≡◌, ◌≢◌, ℕ, ◌<◌, ◌==◌, true, false, not, List, [], Option, Some, None, sym, ap, ◌∙◌, inl, inr, arith}
use Rattle.std.specs.Prelude.{unwrap_or, if◌then◌else◌}
use Rattle.std.proofs.lemmas.Bool.{cases_lt, cases_eq}
use Rattle.gl_arena.specs.Id.{Id}
use Rattle.gl_arena.specs.Arena.{amended}
use Rattle.gl_nodes.specs.Node.{Node}
use Rattle.gl_nodes.specs.Forest.{Forest}
use Rattle.gl_nodes.specs.Tree.{Tree}
use Rattle.gl_nodes.specs.Flat.{stands, children, node_by, placed, cut, shifted, same_parent, with_kids, childless, ended, is_in, PutsFlat, RemovesFlat, MovesFlat, ChangesFlat, MakesFlat}
use Rattle.gl_nodes.proofs.Flats.{test-same, test-other}

other_some : (s q : ℕ) → s ≢ q → Some s ≢ Some q
other_some s q ne e = ne (ap (λ o. unwrap_or o 0) e)

none_not : (s : ℕ) → None ≢ Some s
none_not s e = let no : None ≡ Some s = e in cc

some_not : (s : ℕ) → Some s ≢ None
some_not s e = let no : Some s ≡ None = e in cc

-- one parent's list is another
pub kids_are : (l m : Option ℕ → List ℕ) (p : Option ℕ) (xs : List ℕ) → m p ≡ xs → ((q : Option ℕ) → q ≢ p → m q ≡ l q) → m ≡ with_kids l p xs
unfolding with_kids
kids_are l m p xs here others = λ t q. at p q here others t
  where
    at : (p q : Option ℕ) → m p ≡ xs → ((q : Option ℕ) → q ≢ p → m q ≡ l q) → m q ≡ (if same_parent q p then xs else l q)
    at None None here others = here
    at None (Some s) here others = others (Some s) (some_not s)
    at (Some p) None here others = others None (none_not p)
    at (Some p) (Some s) here others = elim (cases_eq s p) [
      | inl e ↦ ap (λ z. m (Some z)) e ∙ (here ∙ sym (ap (λ b. if b then xs else l (Some s)) (test-same s p e)))
      | inr ne ↦ others (Some s) (other_some s p ne) ∙ sym (ap (λ b. if b then xs else l (Some s)) (test-other s p ne))
    ]

-- the node of one stamp is another
pub node_is : (l m : ℕ → Option Node) (s : ℕ) (o : Option Node) → m s ≡ o → ((q : ℕ) → q ≢ s → m q ≡ l q) → m ≡ amended l s o
unfolding amended
node_is l m s o here others = λ t q. at q t
  where
    at : (q : ℕ) → m q ≡ (if q == s then o else l q)
    at q = elim (cases_eq q s) [
      | inl e ↦ ap m e ∙ (here ∙ sym (ap (λ b. if b then o else l q) (test-same q s e)))
      | inr ne ↦ others q ne ∙ sym (ap (λ b. if b then o else l q) (test-other q s ne))
    ]

-- The calls.

pub puts-kids : (old new : Tree) (p next : Option ℕ) (s : ℕ) → PutsFlat old new p next s → children new ≡ with_kids (children old) p (placed next s (children old p))
puts-kids old new p next s u = kids_are (children old) (children new) p (placed next s (children old p)) u.is u.others

pub moves-kids : (old new : Tree) (p next : Option ℕ) (x y : ℕ) → MovesFlat old new p next x y → children new ≡ with_kids (children old) p (shifted x y next (children old p))
moves-kids old new p next x y m = kids_are (children old) (children new) p (shifted x y next (children old p)) m.is m.others

pub makes-nodes : (old new : Tree) (i : Id) (node : Node) → MakesFlat old new i node → node_by new ≡ amended (node_by old) old.nodes.made (Some node)
makes-nodes old new i node m = node_is (node_by old) (node_by new) i.1 (Some node) m.here m.others ∙ ap (λ s. amended (node_by old) s (Some node)) m.stamp

pub changes-nodes : (old new : Tree) (s : ℕ) (node : Option Node) → ChangesFlat old new s node → node_by new ≡ amended (node_by old) s node
changes-nodes old new s node c = node_is (node_by old) (node_by new) s node c.here c.others

in-test : (f : Forest) (s : ℕ) → 0 < stands s f → is_in f s ≡ true
in-test f s lt = ap not (test-other (stands s f) 0 (λ e. absurd (omega (arith, lt, e))))

out-test : (f : Forest) (s : ℕ) → stands s f ≡ 0 → is_in f s ≡ false
out-test f s off = ap not (test-same (stands s f) 0 off)

pub removes-nodes : (old new : Tree) (p : Option ℕ) (x y : ℕ) (gone : Forest) → RemovesFlat old new p x y gone → node_by new ≡ ended (is_in gone) (node_by old)
unfolding ended
removes-nodes old new p x y gone r = λ t s. at s t
  where
    at : (s : ℕ) → node_by new s ≡ (if is_in gone s then None else node_by old s)
    at s = elim (cases_lt 0 (stands s gone)) [
      | inl lt ↦ r.ended s lt ∙ sym (ap (λ b. if b then None else node_by old s) (in-test gone s lt))
      | inr off ↦ let none : stands s gone ≡ 0 = omega (arith, off) in r.nodes s none ∙ sym (ap (λ b. if b then None else node_by old s) (out-test gone s none))
    ]

pub removes-kids : (old new : Tree) (p : Option ℕ) (x y : ℕ) (gone : Forest) → RemovesFlat old new p x y gone → children new ≡ childless (is_in gone) (with_kids (children old) p (cut x y (children old p)))
unfolding childless with_kids
removes-kids old new p x y gone r = λ t q. at p q r t
  where
    at : (p q : Option ℕ) → RemovesFlat old new p x y gone → children new q ≡ childless (is_in gone) (with_kids (children old) p (cut x y (children old p))) q
    at None None r = r.is
    at (Some p) None r = r.others None (none_not p) (λ s e. absurd (none_not s e))
    at None (Some s) r = by_stamp_of s (λ off. r.others (Some s) (some_not s) (λ z e. ap (λ o. stands (unwrap_or o 0) gone) (sym e) ∙ off)) r.childless
      where
        by_stamp_of : (s : ℕ) → (stands s gone ≡ 0 → children new (Some s) ≡ children old (Some s)) → ((s : ℕ) → 0 < stands s gone → children new (Some s) ≡ []) → children new (Some s) ≡ (if is_in gone s then [] else children old (Some s))
        by_stamp_of s stays goes = elim (cases_lt 0 (stands s gone)) [
          | inl lt ↦ goes s lt ∙ sym (ap (λ b. if b then [] else children old (Some s)) (in-test gone s lt))
          | inr off ↦ let none : stands s gone ≡ 0 = omega (arith, off) in stays none ∙ sym (ap (λ b. if b then [] else children old (Some s)) (out-test gone s none))
        ]
    at (Some p) (Some s) r = elim (cases_lt 0 (stands s gone)) [
      | inl lt ↦ r.childless s lt ∙ sym (ap (λ b. if b then [] else (if s == p then cut x y (children old (Some p)) else children old (Some s))) (in-test gone s lt))
      | inr off ↦
          let none : stands s gone ≡ 0 = omega (arith, off) in
          stays none ∙ sym (ap (λ b. if b then [] else (if s == p then cut x y (children old (Some p)) else children old (Some s))) (out-test gone s none))
    ]
      where
        stays : stands s gone ≡ 0 → children new (Some s) ≡ (if s == p then cut x y (children old (Some p)) else children old (Some s))
        stays none = elim (cases_eq s p) [
          | inl e ↦ ap (λ z. children new (Some z)) e ∙ (r.is ∙ sym (ap (λ b. if b then cut x y (children old (Some p)) else children old (Some s)) (test-same s p e)))
          | inr ne ↦
              r.others (Some s) (other_some s p ne) (λ z e. ap (λ o. stands (unwrap_or o 0) gone) (sym e) ∙ none)
              ∙ sym (ap (λ b. if b then cut x y (children old (Some p)) else children old (Some s)) (test-other s p ne))
        ]
