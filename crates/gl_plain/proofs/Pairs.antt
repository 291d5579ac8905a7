-- What references mean.
use Rattle.std.proofs.Common.{◌≡◌, ◌≢◌, ℕ, zero, suc, ◌<◌, ◌≤◌, true, false, List, [], ◌∷◌, ◌++◌, Option, refl, sym, ◌∙◌, ap, ap₂, subst, arith, inl, inr, ◌⊎◌}
use Rattle.std.specs.Prelude.{nat_eq, if◌then◌else◌}
use Rattle.std.proofs.lemmas.Bool.{cases_lt, lt-ltb, le-ltb}
use Rattle.std.proofs.lemmas.Bool.Decides.{eqb_tells}
use mathlib.Core.Path.{fun_ext}
use Rattle.gl_meaning.specs.App.{App}
use Rattle.gl_meaning.specs.Scope.{Pair, absent, scope, passed}
use Rattle.gl_meaning.specs.Eval.{Store}
use Rattle.gl_plain.specs.Ids.{Id, ref, occurs}
use Rattle.gl_plain.specs.State.{Names, names_by, MScope, mscope, MPassed, mnothing, mpassed, scope_by, passed_by, cell_ref, Thing, thing_pair, pairs_below, pair_of}
use Rattle.gl_plain.specs.Stands.{below, Obeys, CellsIn, CellsPassed, NamesBelow, ScopeBelow, PassedBelow}
use Rattle.gl_plain.proofs.Moves.{occurs_append}

pub below_at : (n : ℕ) (f : ℕ → Pair) (q : ℕ) → q < n → below n f q ≡ f q
below_at n f q lt = ap (λ b. if b then f q else absent) (lt-ltb q n lt)

pub below_not : (n : ℕ) (f : ℕ → Pair) (q : ℕ) → n ≤ q → below n f q ≡ absent
below_not n f q le = ap (λ b. if b then f q else absent) (le-ltb q n le)

-- the table of the numbers below n has, of these, what each means
table_at : (look : Id → Option Thing) (n q : ℕ) → pairs_below look n q ≡ below n (pair_of look) q
table_at look zero q = sym (below_not 0 (pair_of look) q (omega arith))
table_at look (suc n) q = by (table_at look n q) (eqb_tells q n) (cases_lt q n) where
  by : pairs_below look n q ≡ below n (pair_of look) q → ((nat_eq q n ≡ true) × (q ≡ n)) ⊎ ((nat_eq q n ≡ false) × (q ≢ n)) → ((q < n) ⊎ (n ≤ q))
      → (if nat_eq q n then thing_pair (pairs_below look n) (look (ref n)) else pairs_below look n q) ≡ below (suc n) (pair_of look) q
  by g (inl e) _ =
      let lt : q < suc n = let h = e.1 in omega (arith, h) in
      subst (λ m. (if nat_eq q m then thing_pair (pairs_below look m) (look (ref m)) else pairs_below look m q) ≡ pair_of look q) e.1 refl ∙ sym (below_at (suc n) (pair_of look) q lt)
  by g (inr e) (inl lt) =
      ap (λ b. if b then thing_pair (pairs_below look n) (look (ref n)) else pairs_below look n q) e.0
      ∙ (g ∙ (below_at n (pair_of look) q lt ∙ sym (below_at (suc n) (pair_of look) q (omega (arith, lt)))))
  by g (inr e) (inr le) =
      ap (λ b. if b then thing_pair (pairs_below look n) (look (ref n)) else pairs_below look n q) e.0
      ∙ (g ∙ (below_not n (pair_of look) q le ∙ sym (below_not (suc n) (pair_of look) q (let h = e.1 in by_ne h))))
    where
      by_ne : q ≢ n → suc n ≤ q
      by_ne h = omega (arith, le, h)

table_same : (n : ℕ) (look : Id → Option Thing) → pairs_below look n ≡ below n (pair_of look)
table_same n look = fun_ext (λ q. table_at look n q)

-- each means what its form does
pub pair_law : (look : Id → Option Thing) (q : ℕ) → pair_of look q ≡ thing_pair (below q (pair_of look)) (look (ref q))
pair_law look q =
    ap (λ b. if b then thing_pair (pairs_below look q) (look (ref q)) else pairs_below look q q) (own_eq q) ∙ ap (λ f. thing_pair f (look (ref q))) (table_same q look) where
      own_eq : (n : ℕ) → nat_eq n n ≡ true
      own_eq n = by (eqb_tells n n) where
        by : ((nat_eq n n ≡ true) × (n ≡ n)) ⊎ ((nat_eq n n ≡ false) × (n ≢ n)) → nat_eq n n ≡ true
        by (inl e) = e.0
        by (inr e) = absurd (e.1 refl)

pub obeys_pairs : (look : Id → Option Thing) (made : List Id) → Obeys look made (pair_of look)
obeys_pairs look made q w = pair_law look q

-- what is below a number depends on what is below it alone
tables_agree : (look look' : Id → Option Thing) (n : ℕ) → ((q : ℕ) → q < n → look' (ref q) ≡ look (ref q)) → pairs_below look' n ≡ pairs_below look n
tables_agree look look' zero same = refl
tables_agree look look' (suc n) same =
    ap₂ (λ f t. λ q. if nat_eq q n then thing_pair f t else f q) (tables_agree look look' n (λ q lt. same q (omega (arith, lt)))) (same n (omega arith))

pub pairs_agree : (look look' : Id → Option Thing) (n : ℕ) → ((q : ℕ) → q < n → look' (ref q) ≡ look (ref q)) → (q : ℕ) → q < n → pair_of look' q ≡ pair_of look q
pairs_agree look look' n same q lt = ap (λ f. f q) (tables_agree look look' (suc q) (λ r le. same r (omega (arith, lt, le))))

-- Scopes

pub names_same : (b : ℕ) (f g : ℕ → Pair) → ((q : ℕ) → q < b → f q ≡ g q) → (ns : Names) → NamesBelow b ns → names_by f ns ≡ names_by g ns
names_same b f g same [] h = refl
names_same b f g same (n ∷ ns) h = ap₂ (λ v vs. (n.0, v) ∷ vs) (same n.1 h.0) (names_same b f g same ns h.1)

mutual
  pub scope_same : (app : App) (b : ℕ) (f g : ℕ → Pair) → ((q : ℕ) → q < b → f q ≡ g q) → (s : MScope) → ScopeBelow app b s → scope_by f s ≡ scope_by g s
  scope_same app b f g same (mscope i a l w) h =
      ap₂ (λ k z. k z) (ap₂ (λ x y. scope i.path x y) (names_same b f g same a h.1) (names_same b f g same l h.2)) (passed_same app b f g same w h.3)

  pub passed_same : (app : App) (b : ℕ) (f g : ℕ → Pair) → ((q : ℕ) → q < b → f q ≡ g q) → (w : MPassed) → PassedBelow app b w → passed_by f w ≡ passed_by g w
  passed_same app b f g same mnothing h = refl
  passed_same app b f g same (mpassed k ps bs s) h = ap (passed ps bs) (scope_same app b f g same s h)

mutual
  pub cells_same : (app : App) (τ : Store) (b : ℕ) (f g : ℕ → Pair) → ((q : ℕ) → q < b → f q ≡ g q) → (s : MScope) → ScopeBelow app b s → CellsIn app τ g s → CellsIn app τ f s
  cells_same app τ b f g same (mscope i a l w) h c = ((λ x m. same (cell_ref i x) (h.0 x m) ∙ c.0 x m), passed_cells_same app τ b f g same w h.3 c.1)

  pub passed_cells_same : (app : App) (τ : Store) (b : ℕ) (f g : ℕ → Pair) → ((q : ℕ) → q < b → f q ≡ g q) → (w : MPassed) → PassedBelow app b w → CellsPassed app τ g w → CellsPassed app τ f w
  passed_cells_same app τ b f g same mnothing h c = tt
  passed_cells_same app τ b f g same (mpassed k ps bs s) h c = cells_same app τ b f g same s h c

-- lower bounds

pub names_below : (b c : ℕ) → b ≤ c → (ns : Names) → NamesBelow b ns → NamesBelow c ns
names_below b c le [] h = tt
names_below b c le (n ∷ ns) h = (let w = h.0 in omega (arith, w, le), names_below b c le ns h.1)

mutual
  pub scope_below : (app : App) (b c : ℕ) → b ≤ c → (s : MScope) → ScopeBelow app b s → ScopeBelow app c s
  scope_below app b c le (mscope i a l w) h = ((λ x m. let k = h.0 x m in omega (arith, k, le)), names_below b c le a h.1, names_below b c le l h.2, passed_below app b c le w h.3)

  pub passed_below : (app : App) (b c : ℕ) → b ≤ c → (w : MPassed) → PassedBelow app b w → PassedBelow app c w
  passed_below app b c le mnothing h = tt
  passed_below app b c le (mpassed k ps bs s) h = scope_below app b c le s h

pub names_append : (b : ℕ) (ns ms : Names) → NamesBelow b ns → NamesBelow b ms → NamesBelow b (ns ++ ms)
names_append b [] ms h k = k
names_append b (n ∷ ns) ms h k = (h.0, names_append b ns ms h.1 k)

pub names_by_append : (f : ℕ → Pair) (ns ms : Names) → names_by f (ns ++ ms) ≡ names_by f ns ++ names_by f ms
names_by_append f [] ms = refl
names_by_append f (n ∷ ns) ms = ap (λ vs. (n.0, f n.1) ∷ vs) (names_by_append f ns ms)

-- Obeying

pub obeys_less : (look look' : Id → Option Thing) (made made' : List Id) (f : ℕ → Pair)
    → ((q : ℕ) → 0 < occurs (ref q) made → (0 < occurs (ref q) made') × (look' (ref q) ≡ look (ref q))) → Obeys look' made' f → Obeys look made f
obeys_less look look' made made' f h ob q w = let k = h q w in ob q k.0 ∙ ap (thing_pair (below q f)) k.1

pub left_occurs : (q : Id) (xs ys : List Id) → 0 < occurs q xs → 0 < occurs q (xs ++ ys)
left_occurs q xs ys w = let h = occurs_append q xs ys in omega (arith, h, w)

pub right_occurs : (q : Id) (xs ys : List Id) → 0 < occurs q ys → 0 < occurs q (xs ++ ys)
right_occurs q xs ys w = let h = occurs_append q xs ys in omega (arith, h, w)
