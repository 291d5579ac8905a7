-- A plan moves as many items as the meaning of a turn says.
use Rattle.std.proofs.Common.{◌≡◌, ◌≢◌, ℕ, zero, suc, ◌+◌, ◌<◌, ◌≤◌, List, [], ◌∷◌, ◌++◌, length, Bool, true, false, Some, None, refl, sym, ap, ap₂, subst, ◌∙◌, append_assoc, inl, inr, arith, ltb-true, lt-ltb}
use Rattle.std.specs.Prelude.{◌&&◌, ◌||◌, filter, nat_lt, slice_get, if◌then◌else◌}
use Rattle.std.specs.List.{list_any, cons_option}
use Rattle.std.proofs.lemmas.List.{append-nil, length-map}
use Rattle.std.proofs.lemmas.List.Folds.{list_any-append}
use Rattle.gl_base.specs.Texts.{Text}
use Rattle.gl_value.specs.Value.{Values, no_values, value, key_of}
use Rattle.gl_ast.specs.Template.{Plain}
use Rattle.gl_ast.specs.ExprCode.{owned, unowned, unowned-owned}
use Rattle.gl_meaning.specs.Path.{Path, path_eq, item}
use Rattle.gl_meaning.specs.Render.{Entry, entries}
use Rattle.gl_meaning.specs.Changes.{Item, item_of}
use Rattle.gl_meaning.specs.Work.{Kept, kept_one, list_path, is_passed as is_overtaken}
use Rattle.gl_meaning.specs.Known.{Among}
use Rattle.gl_meaning.specs.Laws.{NoRepeat}
use Rattle.gl_meaning.proofs.Equal.{path_means, path_itself}
use Rattle.gl_each.specs.Key.{Key, entry_key, entry_keys}
use Rattle.gl_each.specs.Sync.{Step, retain, move, insert, is_passed, AreSteps, IsSync}
use Rattle.gl_each.specs.Moved.{item_at, items_at, persisting, moved_among, moves}
use Rattle.gl_each.proofs.Keyings.{keys_apart}

is_false : (b : Bool) → (b ≡ true → ⊥) → b ≡ false
is_false true h = absurd (h refl)
is_false false h = refl

-- the entries have their places as indexes, from n on
abbrev Counted : ℕ → List Entry → Type 0
Counted n [] = Unit {0}
Counted n (e ∷ es) = (e.index ≡ n) × Counted (suc n) es

counted : (k : Text) (n : ℕ) (before : List Plain) (vs : Values Path) → Counted n (entries k n before vs)
counted k n before no_values = tt
counted k n before (value v vs) = (refl, counted k (suc n) (key_of k n v ∷ before) vs)

-- Items by their paths

module _ (p : Path) where
  same_path : (e f : Entry) → entry_key e ≡ entry_key f → path_eq (item_at p e).path (item_at p f).path ≡ true
  same_path e f h =
      let key : e.key ≡ f.key = sym (unowned-owned e.key) ∙ ap (λ (q : Key). unowned q.0) h ∙ unowned-owned f.key in
      let number : e.occurrence ≡ f.occurrence = ap (λ (q : Key). q.1) h in
      subst (λ q. path_eq (item_at p e).path q ≡ true) (ap₂ (λ k n. item k n ∷ p) key number) (path_itself (item_at p e).path)

  other_path : (e f : Entry) → (entry_key e ≡ entry_key f → ⊥) → path_eq (item_at p e).path (item_at p f).path ≡ false
  other_path e f h = is_false _ (λ t.
      let q : item e.key e.occurrence ∷ p ≡ item f.key f.occurrence ∷ p = path_means (item_at p e).path (item_at p f).path t in
      let key : e.key ≡ f.key = cc in
      let number : e.occurrence ≡ f.occurrence = cc in
      h (ap₂ (λ k n. (owned k, n)) key number))

  among : (es : List Entry) (i : ℕ) (k : Key) → slice_get (entry_keys es) i ≡ Some k → Among k (entry_keys es)
  among [] i k h = let e : None ≡ Some k = h in cc
  among (e ∷ es) zero k h = let q : Some (entry_key e) ≡ Some k = h in inl cc
  among (e ∷ es) (suc i) k h = inr (among es i k h)

  -- the item of an entry whose key stands at a place
  found : (es : List Entry) (n i : ℕ) (e : Entry) → Counted n es → NoRepeat (entry_keys es) → slice_get (entry_keys es) i ≡ Some (entry_key e)
      → (x : Item) × (item_of (item_at p e).path (items_at p es) ≡ Some x) × (x.index ≡ n + i)
  found [] n i e c apart h = let q : None ≡ Some (entry_key e) = h in absurd (cc)
  found (f ∷ es) n zero e c apart h =
      let q : Some (entry_key f) ≡ Some (entry_key e) = h in
      let same : entry_key e ≡ entry_key f = cc in
      let z : n ≡ n + 0 = omega arith in
      (item_at p f, ap (λ b. if b then Some (item_at p f) else item_of (item_at p e).path (items_at p es)) (same_path e f same), c.0 ∙ z)
  found (f ∷ es) n (suc i) e c apart h =
      let r = found es (suc n) i e c.1 apart.1 h in
      let differs : entry_key e ≡ entry_key f → ⊥ = λ q. apart.0 (subst (λ k. Among k (entry_keys es)) q (among es i (entry_key e) h)) in
      let z : suc n + i ≡ n + suc i = omega arith in
      (r.0, ap (λ b. if b then Some (item_at p f) else item_of (item_at p e).path (items_at p es)) (other_path e f differs) ∙ r.1, r.2 ∙ z)

  -- the key of an entry stands nowhere
  missing : (es : List Entry) (e : Entry) → ((i : ℕ) → slice_get (entry_keys es) i ≢ Some (entry_key e)) → item_of (item_at p e).path (items_at p es) ≡ None
  missing [] e h = refl
  missing (f ∷ es) e h =
      ap (λ b. if b then Some (item_at p f) else item_of (item_at p e).path (items_at p es)) (other_path e f (λ q. h 0 (ap Some (sym q))))
      ∙ missing es e (λ i. h (suc i))

  -- Items that persist

  abbrev kept_at : Entry → ℕ → Kept
  kept_at e i = record { path = (item_at p e).path; before = i; after = e.index }

  abbrev kepts : List Entry → List Step → List Kept
  kepts [] ss = []
  kepts (e ∷ es) [] = []
  kepts (e ∷ es) (retain i ∷ ss) = kept_at e i ∷ kepts es ss
  kepts (e ∷ es) (move i ∷ ss) = kept_at e i ∷ kepts es ss
  kepts (e ∷ es) (insert ∷ ss) = kepts es ss

  module _ (old : List Entry) (c : Counted 0 old) (apart : NoRepeat (entry_keys old)) where
    at_place : (e : Entry) (i : ℕ) → slice_get (entry_keys old) i ≡ Some (entry_key e) → kept_one (item_at p e) (item_of (item_at p e).path (items_at p old)) ≡ Some (kept_at e i)
    at_place e i h =
        let r = found old 0 i e c apart h in
        let z : 0 + i ≡ i = omega arith in
        ap (kept_one (item_at p e)) r.1 ∙ ap (λ n. Some (kept_at e n)) (r.2 ∙ z)

    persist : (ds : List ℕ) (new : List Entry) (ss : List Step) → AreSteps (entry_keys old) ds (entry_keys new) ss → persisting (items_at p old) (items_at p new) ≡ kepts new ss
    persist ds [] ss h = refl
    persist ds (e ∷ new) [] h = absurd h
    persist ds (e ∷ new) (retain i ∷ ss) h =
        ap (λ o. cons_option o (persisting (items_at p old) (items_at p new))) (at_place e i h.0.0) ∙ ap (λ l. kept_at e i ∷ l) (persist (ds ++ i ∷ []) new ss h.1)
    persist ds (e ∷ new) (move i ∷ ss) h =
        ap (λ o. cons_option o (persisting (items_at p old) (items_at p new))) (at_place e i h.0.0) ∙ ap (λ l. kept_at e i ∷ l) (persist (ds ++ i ∷ []) new ss h.1)
    persist ds (e ∷ new) (insert ∷ ss) h =
        ap (λ o. cons_option o (persisting (items_at p old) (items_at p new))) (ap (kept_one (item_at p e)) (missing old e h.0)) ∙ persist (ds ++ []) new ss h.1

  -- Which of them are overtaken

  -- those before n, with their old places
  abbrev Before : ℕ → List Kept → List ℕ → Type 0
  Before n [] [] = Unit {0}
  Before n (o ∷ os) (d ∷ ds) = (list_path o.path ≡ p) × (o.after < n) × (o.before ≡ d) × Before n os ds
  Before n [] (d ∷ ds) = ⊥
  Before n (o ∷ os) [] = ⊥

  before_push : (n : ℕ) (os : List Kept) (ds : List ℕ) (o : Kept) → list_path o.path ≡ p → o.after ≡ n → Before n os ds → Before (suc n) (os ++ o ∷ []) (ds ++ o.before ∷ [])
  before_push n [] [] o is at h = (is, omega arith, refl, tt)
  before_push n (x ∷ os) (d ∷ ds) o is at h = let a = h.1 in (h.0, omega arith, h.2, before_push n os ds o is at h.3)
  before_push n [] (d ∷ ds) o is at h = absurd h
  before_push n (x ∷ os) [] o is at h = absurd h

  before_next : (n : ℕ) (os : List Kept) (ds : List ℕ) → Before n os ds → Before (suc n) os ds
  before_next n [] [] h = tt
  before_next n (x ∷ os) (d ∷ ds) h = let a = h.1 in (h.0, omega arith, h.2, before_next n os ds h.3)
  before_next n [] (d ∷ ds) h = absurd h
  before_next n (x ∷ os) [] h = absurd h

  abbrev overtakes : Kept → Kept → Bool
  overtakes k o = path_eq (list_path o.path) (list_path k.path) && (nat_lt o.after k.after && nat_lt k.before o.before)

  among_before : (n : ℕ) (os : List Kept) (ds : List ℕ) (e : Entry) (i : ℕ) → e.index ≡ n → Before n os ds → list_any (overtakes (kept_at e i)) os ≡ is_passed ds i
  among_before n [] [] e i at h = refl
  among_before n (o ∷ os) (d ∷ ds) e i at h =
      let a = h.1 in
      let less : nat_lt o.after e.index ≡ true = lt-ltb _ _ (omega arith) in
      ap₂ (λ x y. x || y)
      (ap₂ (λ q b. path_eq q p && (b && nat_lt i o.before)) h.0 less ∙ ap (λ b. b && nat_lt i o.before) (path_itself p) ∙ ap (nat_lt i) h.2)
      (among_before n os ds e i at h.3)
  among_before n [] (d ∷ ds) e i at h = absurd h
  among_before n (o ∷ os) [] e i at h = absurd h

  and_false : (a b : Bool) → a && (false && b) ≡ false
  and_false true b = refl
  and_false false b = refl

  later : (m : ℕ) (f e : Entry) (i j : ℕ) → f.index ≡ m → e.index ≤ m → overtakes (kept_at e i) (kept_at f j) ≡ false
  later m f e i j at h =
      let not_less : nat_lt f.index e.index ≡ false = is_false _ (λ t. let u = ltb-true f.index e.index t in omega arith) in
      ap (λ b. path_eq p p && (b && nat_lt i j)) not_less ∙ and_false (path_eq p p) (nat_lt i j)

  not_behind : (m : ℕ) (new : List Entry) (ss : List Step) (e : Entry) (i : ℕ) → Counted m new → e.index ≤ m → list_any (overtakes (kept_at e i)) (kepts new ss) ≡ false
  not_behind m [] ss e i c h = refl
  not_behind m (f ∷ new) [] e i c h = refl
  not_behind m (f ∷ new) (retain j ∷ ss) e i c h = ap₂ (λ x y. x || y) (later m f e i j c.0 h) (not_behind (suc m) new ss e i c.1 (omega arith))
  not_behind m (f ∷ new) (move j ∷ ss) e i c h = ap₂ (λ x y. x || y) (later m f e i j c.0 h) (not_behind (suc m) new ss e i c.1 (omega arith))
  not_behind m (f ∷ new) (insert ∷ ss) e i c h = not_behind (suc m) new ss e i c.1 (omega arith)

  -- the kept item of an entry is overtaken where its place is passed
  overtaken : (n : ℕ) (os : List Kept) (ds : List ℕ) (e : Entry) (new : List Entry) (ss : List Step) (i : ℕ) → e.index ≡ n → Before n os ds → Counted (suc n) new
      → is_overtaken (os ++ kept_at e i ∷ kepts new ss) (kept_at e i) ≡ is_passed ds i
  overtaken n os ds e new ss i at h c =
      list_any-append (overtakes (kept_at e i)) os (kept_at e i ∷ kepts new ss)
      ∙ ap₂ (λ x y. x || y) (among_before n os ds e i at h) (ap₂ (λ x y. x || y) (later n e e i i at (omega arith)) (not_behind (suc n) new ss e i c (omega arith)))
      ∙ or_false (is_passed ds i)
    where
      or_false : (b : Bool) → (b || (false || false)) ≡ b
      or_false true = refl
      or_false false = refl

  count_moves : {K : Type 0} (old : List K) (n : ℕ) (os : List Kept) (ds : List ℕ) (ks : List K) (new : List Entry) (ss : List Step) → AreSteps old ds ks ss → length new ≡ length ks → Counted n new → Before n os ds
      → length (filter (is_overtaken (os ++ kepts new ss)) (kepts new ss)) ≡ moves ss
  count_moves old n os ds [] [] [] h l c b = refl
  count_moves old n os ds [] [] (s ∷ ss) h l c b = absurd h
  count_moves old n os ds [] (e ∷ new) ss h l c b = absurd (omega arith)
  count_moves old n os ds (k ∷ ks) [] ss h l c b = absurd (omega arith)
  count_moves old n os ds (k ∷ ks) (e ∷ new) [] h l c b = absurd h
  count_moves old n os ds (k ∷ ks) (e ∷ new) (retain i ∷ ss) h l c b =
      ap (λ t. length (if t then kept_at e i ∷ rest else rest)) (overtaken n os ds e new ss i c.0 b c.1 ∙ h.0.1)
      ∙ ap (λ all. length (filter (is_overtaken all) (kepts new ss))) (sym (append_assoc os (kept_at e i ∷ []) (kepts new ss)))
      ∙ count_moves old (suc n) (os ++ kept_at e i ∷ []) (ds ++ i ∷ []) ks new ss h.1 (omega arith) c.1 (before_push n os ds (kept_at e i) refl c.0 b)
    where
      rest : List Kept
      rest = filter (is_overtaken (os ++ kept_at e i ∷ kepts new ss)) (kepts new ss)
  count_moves old n os ds (k ∷ ks) (e ∷ new) (move i ∷ ss) h l c b =
      ap (λ t. length (if t then kept_at e i ∷ rest else rest)) (overtaken n os ds e new ss i c.0 b c.1 ∙ h.0.1)
      ∙ ap suc (ap (λ all. length (filter (is_overtaken all) (kepts new ss))) (sym (append_assoc os (kept_at e i ∷ []) (kepts new ss)))
      ∙ count_moves old (suc n) (os ++ kept_at e i ∷ []) (ds ++ i ∷ []) ks new ss h.1 (omega arith) c.1 (before_push n os ds (kept_at e i) refl c.0 b))
    where
      rest : List Kept
      rest = filter (is_overtaken (os ++ kept_at e i ∷ kepts new ss)) (kepts new ss)
  count_moves old n os ds (k ∷ ks) (e ∷ new) (insert ∷ ss) h l c b =
      count_moves old (suc n) os ds ks new ss (subst (λ es. AreSteps old es ks ss) (append-nil ds) h.1) (omega arith) c.1 (before_next n os ds b)

pub moves_are_moved : (p : Path) (k : Text) (old new : Values Path) (steps : List Step) (removed : List ℕ)
    → IsSync (entry_keys (entries k 0 [] old)) (entry_keys (entries k 0 [] new)) steps removed
    → moves steps ≡ moved_among (items_at p (entries k 0 [] old)) (items_at p (entries k 0 [] new))
moves_are_moved p k old new steps removed h =
    let es = entries k 0 [] old in
    let fs = entries k 0 [] new in
    sym (ap (λ all. length (filter (is_overtaken all) all)) (persist p es (counted k 0 [] old) (keys_apart k old) [] fs steps h.steps_are)
    ∙ count_moves p (entry_keys es) 0 [] [] (entry_keys fs) fs steps h.steps_are (sym (length-map fs entry_key)) (counted k 0 [] new) tt)
