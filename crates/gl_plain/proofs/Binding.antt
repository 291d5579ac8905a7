-- The references that are bound for an expression give its value.
use Rattle.gl_plain.specs.Reads.{reads, IdsBelow}
use Rattle.std.proofs.Common.{◌≡◌, ℕ, zero, suc, max, ◌+◌, ◌<◌, ◌≤◌, Bool, true, false, List, [], ◌∷◌, ◌++◌, map, Option, Some, None, refl, ◌∙◌, ap, ap₂, arith, inl, inr, ◌⊎◌}
use Rattle.std.specs.Prelude.{if◌then◌else◌}
use Rattle.std.proofs.lemmas.Bool.{cases_lt}
use Rattle.std.specs.Str.{bytes_eq}
use Rattle.gl_base.specs.Texts.{Text}
use Rattle.gl_base.specs.Names.{last_named, or_else}
use Rattle.gl_meaning.specs.App.{App}
use Rattle.gl_meaning.specs.Scope.{Pair, NamedPairs}
use Rattle.gl_meaning.specs.Eval.{Store, with_properties}
use Rattle.gl_plain.specs.Ids.{a_ref, Id, kind_eq, ref, occurs, hit}
use Rattle.gl_plain.specs.State.{any_of, Form, property_form, Row, Names, names_by, form_pair, MScope, row, Thing, State, thing_pair, refs_of}
use Rattle.gl_plain.specs.Binding.{Bound, BoundAll, BoundNames, made_row, old_ref, new_ref, after_made, bind_along}
use Rattle.gl_plain.specs.Stands.{below, Obeys, CellsIn, Gives, above_ref, top, NamesBelow}
use Rattle.gl_plain.proofs.Moves.{Moves, both_new, before_new, recount, no_move, make_moves, make_at, occurs_append, hit_self, hit_means, kind_means}
use Rattle.gl_plain.proofs.Pairs.{below_at, obeys_less, left_occurs, right_occurs}

-- The least number above references

pub top_append : (xs ys : List Id) → top (xs ++ ys) ≡ max (top xs) (top ys)
unfolding top
top_append [] ys = omega arith
top_append (x ∷ xs) ys = let h = top_append xs ys in omega (arith, h)

pub in_top : (r : ℕ) (xs : List Id) → 0 < occurs (ref r) xs → r < top xs
unfolding top
in_top r [] w = absurd (omega (arith, w))
in_top r (x ∷ xs) w = by (in_top r xs) (hit (ref r) x) refl where
  by : (0 < occurs (ref r) xs → r < top xs) → (n : ℕ) → hit (ref r) x ≡ n → r < max (above_ref x) (top xs)
  by g zero e = let h = g (omega (arith, e, w)) in omega (arith, h)
  by g (suc n) e =
      let same : ref r ≡ x = hit_means (ref r) x (omega (arith, e)) in
      let h : suc r ≡ above_ref x = ap above_ref same in omega (arith, h)

head_low : (n : ℕ) (x : Id) (xs : List Id) → x.kind ≡ a_ref → occurs (ref x.num) (x ∷ xs) ≡ 0 → ⊥
head_low n x xs k e =
    let same : x ≡ ref x.num = ap (λ j. record { kind = j; num = x.num }) k in
    let h : hit (ref x.num) x ≡ hit (ref x.num) (ref x.num) = ap (hit (ref x.num)) same in
    let w = hit_self (ref x.num) in
    absurd (omega (arith, e, h, w))

pub top_le : (n : ℕ) (xs : List Id) → ((r : ℕ) → n ≤ r → occurs (ref r) xs ≡ 0) → top xs ≤ n
unfolding top
top_le n [] h = omega arith
top_le n (x ∷ xs) h =
    let k = top_le n xs (λ r le. let e = h r le in omega (arith, e)) in
    let j = by (kind_eq x.kind a_ref) refl (cases_lt x.num n) in omega (arith, k, j)
  where
    by : (b : Bool) → kind_eq x.kind a_ref ≡ b → ((x.num < n) ⊎ (n ≤ x.num)) → above_ref x ≤ n
    by false e _ = let g : above_ref x ≡ 0 = ap (λ z. if z then suc x.num else 0) e in omega (arith, g)
    by true e (inl lt) = let g : above_ref x ≡ suc x.num = ap (λ z. if z then suc x.num else 0) e in omega (arith, g, lt)
    by true e (inr le) = absurd (head_low n x xs (kind_means x.kind a_ref e) (h x.num le))

pub top_ends : (st st' : State) (made : List Id) → Moves st st' (λ q. 0) (λ q. occurs q made) → top made ≤ st'.next a_ref
top_ends st st' made m = top_le (st'.next a_ref) made (λ r le. m.old (ref r) le)

-- What a binding gives

pub record Binds (app : App) (b : ℕ) (ms : MScope) (st : State) (x : Bound) (E : Store → (ℕ → Pair) → Pair) : Type 0 where
  pub moves : Moves st x.state (λ q. 0) (λ q. occurs q x.made)
  pub gives : Gives app x.state.look x.made ms (λ f. f x.id) E
  pub low : x.id < max b (top x.made)

pub record BindsAll (app : App) (b : ℕ) (ms : MScope) (st : State) (x : BoundAll) (E : Store → (ℕ → Pair) → List Pair) : Type 0 where
  pub moves : Moves st x.state (λ q. 0) (λ q. occurs q x.made)
  pub gives : Gives app x.state.look x.made ms (λ f. map f x.ids) E
  pub low : IdsBelow (max b (top x.made)) x.ids

pub record BindsNames (app : App) (b : ℕ) (ms : MScope) (st : State) (x : BoundNames) (E : Store → (ℕ → Pair) → NamedPairs) : Type 0 where
  pub moves : Moves st x.state (λ q. 0) (λ q. occurs q x.made)
  pub gives : Gives app x.state.look x.made ms (λ f. names_by f x.names) E
  pub low : NamesBelow (max b (top x.made)) x.names

pub ids_below : (b c : ℕ) → b ≤ c → (rs : List ℕ) → IdsBelow b rs → IdsBelow c rs
ids_below b c le [] h = tt
ids_below b c le (r ∷ rs) h = (let w = h.0 in omega (arith, w, le), ids_below b c le rs h.1)

pub ids_append : (c : ℕ) (xs ys : List ℕ) → IdsBelow c xs → IdsBelow c ys → IdsBelow c (xs ++ ys)
ids_append c [] ys h k = k
ids_append c (x ∷ xs) ys h k = (h.0, ids_append c xs ys h.1 k)

pub ids_of_names : (c : ℕ) (ns : Names) → NamesBelow c ns → IdsBelow c (refs_of ns)
ids_of_names c [] h = tt
ids_of_names c (n ∷ ns) h = (h.0, ids_of_names c ns h.1)

pub ids_same : (n : ℕ) (f : ℕ → Pair) (rs : List ℕ) → IdsBelow n rs → map (below n f) rs ≡ map f rs
ids_same n f [] h = refl
ids_same n f (r ∷ rs) h = ap₂ (λ v vs. v ∷ vs) (below_at n f r h.0) (ids_same n f rs h.1)

pub names_below_same : (n : ℕ) (f : ℕ → Pair) (ns : Names) → NamesBelow n ns → names_by (below n f) ns ≡ names_by f ns
names_below_same n f [] h = refl
names_below_same n f (x ∷ ns) h = ap₂ (λ v vs. (x.0, v) ∷ vs) (below_at n f x.1 h.0) (names_below_same n f ns h.1)

-- what was obeyed of both, of each
pub obeys_left : (st st1 st2 : State) (xs ys : List Id) (f : ℕ → Pair) → Moves st st1 (λ q. 0) (λ q. occurs q xs) → Moves st1 st2 (λ q. 0) (λ q. occurs q ys)
    → Obeys st2.look (xs ++ ys) f → Obeys st1.look xs f
obeys_left st st1 st2 xs ys f m n ob = obeys_less st1.look st2.look xs (xs ++ ys) f (λ q w. (left_occurs (ref q) xs ys w, before_new st st1 st2 (λ r. occurs r xs) (λ r. occurs r ys) m n (ref q) w)) ob

pub obeys_right : (look : Id → Option Thing) (xs ys : List Id) (f : ℕ → Pair) → Obeys look (xs ++ ys) f → Obeys look ys f
obeys_right look xs ys f ob = obeys_less look look ys (xs ++ ys) f (λ q w. (right_occurs (ref q) xs ys w, refl)) ob

pub both_made : (st st1 st2 : State) (xs ys : List Id) → Moves st st1 (λ q. 0) (λ q. occurs q xs) → Moves st1 st2 (λ q. 0) (λ q. occurs q ys)
    → Moves st st2 (λ q. 0) (λ q. occurs q (xs ++ ys))
both_made st st1 st2 xs ys m n = recount st st2 (λ q. 0) (λ q. 0) (λ q. occurs q (xs ++ ys)) (λ q. occurs q xs + occurs q ys) (λ q. refl) (λ q. occurs_append q xs ys) (both_new st st1 st2 _ _ m n)

pub row_moves : (form : Form) (st : State) → IdsBelow (st.next a_ref) (reads form) → Moves st (made_row form st) (λ q. 0) (λ q. occurs q (ref (st.next a_ref) ∷ []))
row_moves form st fits =
    recount st (made_row form st) (λ q. 0) (λ q. 0) (λ q. occurs q (ref (st.next a_ref) ∷ [])) (λ q. hit q (ref (st.next a_ref))) (λ q. refl) (λ q. omega arith)
    (make_moves a_ref (row (record { form = form; last = any_of [] })) st fits)

module _ (app : App) (b : ℕ) (ms : MScope) where
  pub after_is : (st0 st : State) (made : List Id) → Moves st0 st (λ q. 0) (λ q. occurs q made) → (form : Form) → IdsBelow (st.next a_ref) (reads form) → (E : Store → (ℕ → Pair) → Pair)
      → ((f : ℕ → Pair) (τ : Store) → Obeys st.look made f → CellsIn app τ f ms → form_pair (below (st.next a_ref) f) form ≡ E τ f)
      → Binds app b ms st0 (after_made made form st) E
  after_is st0 st made m form fits E hyp =
      let r = st.next a_ref in
      let x : Row = record { form = form; last = any_of [] } in
      let n = row_moves form st fits in
      let at = make_at a_ref (row x) st in
      let self : 0 < occurs (ref r) (ref r ∷ []) = (let h = hit_self (ref r) in omega (arith, h)) in
      record {
        moves = both_made st0 st (made_row form st) made (ref r ∷ []) m n;
        gives = λ f τ ob c.
            ob r (right_occurs (ref r) made (ref r ∷ []) self)
            ∙ (ap (thing_pair (below r f)) at ∙ hyp f τ (obeys_left st0 st (made_row form st) made (ref r ∷ []) f m n ob) c);
        low = let h = in_top r (made ++ ref r ∷ []) (right_occurs (ref r) made (ref r ∷ []) self) in omega (arith, h);
      }

  pub new_is : (st : State) (form : Form) → IdsBelow (st.next a_ref) (reads form) → (E : Store → (ℕ → Pair) → Pair)
      → ((f : ℕ → Pair) (τ : Store) → CellsIn app τ f ms → form_pair (below (st.next a_ref) f) form ≡ E τ f) → Binds app b ms st (new_ref form st) E
  new_is st form fits E hyp = after_is st st [] (no_move st) form fits E (λ f τ ob c. hyp f τ c)

  pub old_is : (st : State) (r : ℕ) (E : Store → (ℕ → Pair) → Pair) → r < b → ((f : ℕ → Pair) (τ : Store) → CellsIn app τ f ms → f r ≡ E τ f) → Binds app b ms st (old_ref r st) E
  old_is st r E lt hyp = record { moves = no_move st; gives = λ f τ ob c. hyp f τ c; low = omega (arith, lt) }

  pub along_is : (ks : List Text) (st : State) (x : Bound) (E : Store → (ℕ → Pair) → Pair) → b ≤ st.next a_ref → Binds app b ms st x E
      → Binds app b ms st (bind_along ks x) (λ τ f. with_properties ks (E τ f))
  along_is [] st x E le h = h
  along_is (k ∷ ks) st x E le h =
      along_is ks st (after_made x.made (property_form x.id k) x.state) (λ τ f. with_properties (k ∷ []) (E τ f)) le
      (after_is st x.state x.made h.moves (property_form x.id k) (lt, tt) (λ τ f. with_properties (k ∷ []) (E τ f))
      (λ f τ ob c. ap (with_properties (k ∷ [])) (below_at (x.state.next a_ref) f x.id lt ∙ h.gives f τ ob c)))
    where
      lt : x.id < x.state.next a_ref
      lt = let i = h.low in let j = top_ends st x.state x.made h.moves in let w = h.moves.more (ref 0) in omega (arith, i, j, w, le)

-- Names

abbrev pub mapped : (ℕ → Pair) → Option ℕ → Option Pair
mapped f None = None
mapped f (Some r) = Some (f r)

pub last_by : (f : ℕ → Pair) (n : Text) (ns : Names) → last_named n (names_by f ns) ≡ mapped f (last_named n ns)
last_by f n [] = refl
last_by f n (x ∷ ns) = ap (λ o. or_else o (if bytes_eq n x.0 then Some (f x.1) else None)) (last_by f n ns) ∙ by (last_named n ns) (bytes_eq n x.0) where
  by : (o : Option ℕ) (t : Bool) → or_else (mapped f o) (if t then Some (f x.1) else None) ≡ mapped f (or_else o (if t then Some x.1 else None))
  by (Some r) t = refl
  by None true = refl
  by None false = refl

abbrev pub OptionBelow : ℕ → Option ℕ → Type 0
OptionBelow b None = Unit {0}
OptionBelow b (Some r) = r < b

pub last_below : (b : ℕ) (n : Text) (ns : Names) → NamesBelow b ns → OptionBelow b (last_named n ns)
last_below b n [] h = tt
last_below b n (x ∷ ns) h = by (last_named n ns) (bytes_eq n x.0) (last_below b n ns h.1) where
  by : (o : Option ℕ) (t : Bool) → OptionBelow b o → OptionBelow b (or_else o (if t then Some x.1 else None))
  by (Some r) t k = k
  by None true k = h.0
  by None false k = tt
