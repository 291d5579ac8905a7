-- What is moved between two trees is what is moved between their lists.
use Rattle.std.proofs.Common.{◌≡◌, ℕ, suc, ◌+◌, List, [], ◌∷◌, ◌++◌, Bool, true, false, true≢false, Option, Some, refl, sym, ap, ap₂, ◌∙◌, subst, arith, inl, inr}
use Rattle.std.specs.Prelude.{if◌then◌else◌, unwrap_or}
use Rattle.std.proofs.lemmas.Bool.Decides.{Decides-eqb}
use Rattle.gl_value.specs.Value.{same}
use Rattle.gl_ast.specs.ExprCode.{owned, unowned, unowned-owned}
use Rattle.gl_meaning.specs.Path.{PathStep, at, main, otherwise, items, item, into, slot, Path, path_eq, at_path, no_owners}
use Rattle.gl_meaning.specs.Known.{Among}
use Rattle.gl_meaning.specs.Laws.{Within}
use Rattle.gl_meaning.proofs.Equal.{path_itself, same_itself, no_owners-Decides, both_true}
use Rattle.gl_meaning.proofs.Pieces.{among_either}
use Rattle.gl_meaning.proofs.Under.{within_itself, within_outer, steps_apart, not_below}
use Rattle.gl_plain.specs.Ids.{Kind}
use Rattle.gl_plain.specs.State.{Inst}
use Rattle.gl_plain.specs.Live as v
use Rattle.gl_plain.specs.Live.{ItemSpot, Live, Lives, Items}
use Rattle.gl_plain.specs.Keeps.{same_key, WhereTrue, EachItem, Keeps, KeepIn, KeptBy}
use Rattle.gl_plain.specs.Renew.{renew_app}
use Rattle.gl_plain.proofs.Roots.{updated_stands, ids_are_kept}
use Rattle.gl_plain.proofs.Apart.{Into, Only, FromStep, from_apart, into_more}
use Rattle.gl_turns.specs.Fits.{StepsIn, Fits, FitsItems, FitsIn, FitsRoot}
use Rattle.gl_turns.proofs.Found.{path_other}
use Rattle.gl_turns.proofs.Numbered.{tree_agrees}
use Rattle.gl_each.specs.Key as k
use Rattle.gl_each.specs.Key.{Key}
use Rattle.gl_each.specs.SameKeys.{same_key-Decides}
use Rattle.gl_kept.specs.Listed.{spot_keys, tree_lists, tree_lists_items, tree_lists_in, keys_at}
use Rattle.gl_kept.specs.Between.{moves_from, moves_between, lives_with, kept_with, moved_between, moved_items, moved_bodies}
use Rattle.gl_kept.specs.Laws.{UpdatedMovesBetween}
use Rattle.gl_kept.proofs.Between.{moves_in_lists, plans_for, are_plans, plans_move}
use Rattle.gl_kept.proofs.TreeLists.{updated_moves}

-- Lists at their paths

abbrev Keyed : Type 0
Keyed = List (Path × List Key)

-- each stands below p, at one of these steps; each stands at p or below it
abbrev Sited : Path → (PathStep → Type 0) → Keyed → Type 0
Sited p S xs = (z : Path × List Key) → Among z xs → Into p S z.0

abbrev SitedAt : Path → Keyed → Type 0
SitedAt p xs = (z : Path × List Key) → Among z xs → Within p z.0

-- none of the one has the path of one of the other
abbrev Apart : Keyed → Keyed → Type 0
Apart xs ys = (a b : Path × List Key) → Among a xs → Among b ys → a.0 ≡ b.0 → ⊥

sited_apart : (p : Path) (S S' : PathStep → Type 0) (xs ys : Keyed) → ((l : PathStep) → S l → S' l → ⊥) → Sited p S xs → Sited p S' ys → Apart xs ys
sited_apart p S S' xs ys d f g a b m n e =
    let x = f a m in
    let y = g b n in
    d x.0 x.1 (subst S' (steps_apart y.0 x.0 p a.0 (subst (λ j. Within (y.0 ∷ p) j) (sym e) y.2) x.2) y.1)

two_apart : (l m : PathStep) (p : Path) (xs ys : Keyed) → (l ≡ m → ⊥) → SitedAt (l ∷ p) xs → SitedAt (m ∷ p) ys → Apart xs ys
two_apart l m p xs ys d f g a b i j e = d (steps_apart l m p a.0 (f a i) (subst (λ q. Within (m ∷ p) q) (sym e) (g b j)))

flipped : (xs ys : Keyed) → Apart xs ys → Apart ys xs
flipped xs ys f a b m n e = f b a n m (sym e)

-- a list at p itself
own_apart : (p : Path) (S : PathStep → Type 0) (xs : Keyed) (ks : List Key) → Sited p S xs → Apart xs ((p, ks) ∷ [])
own_apart p S xs ks f a b m (inl n) e = let x = f a m in not_below x.0 p (subst (λ j. Within (x.0 ∷ p) j) (e ∙ ap (λ z. z.0) n) x.2)
own_apart p S xs ks f a b m (inr n) e = absurd n

sited_join : (p : Path) (S : PathStep → Type 0) (xs ys : Keyed) → Sited p S xs → Sited p S ys → Sited p S (xs ++ ys)
sited_join p S xs ys f g z m = elim (among_either z xs ys m) [ inl i ↦ f z i | inr j ↦ g z j ]

sited_more : (p : Path) (S S' : PathStep → Type 0) (xs : Keyed) → ((l : PathStep) → S l → S' l) → Sited p S xs → Sited p S' xs
sited_more p S S' xs i f z m = into_more p S S' i z.0 (f z m)

at_step : (l : PathStep) (p : Path) (S : PathStep → Type 0) (xs : Keyed) → SitedAt (l ∷ p) xs → S l → Sited p S xs
at_step l p S xs f s z m = (l, s, f z m)

below_at : (p : Path) (S : PathStep → Type 0) (xs : Keyed) → Sited p S xs → SitedAt p xs
below_at p S xs f z m = let x = f z m in within_outer x.0 p z.0 x.2

outer_at : (l : PathStep) (p : Path) (xs : Keyed) → SitedAt (l ∷ p) xs → SitedAt p xs
outer_at l p xs f z m = within_outer l p z.0 (f z m)

-- a list at p, and what stands below it
region_at : (p : Path) (S : PathStep → Type 0) (ks : List Key) (xs : Keyed) → Sited p S xs → SitedAt p ((p, ks) ∷ xs)
region_at p S ks xs f z (inl e) = subst (λ j. Within p j) (sym (ap (λ y. y.0) e)) (within_itself p)
region_at p S ks xs f z (inr m) = below_at p S xs f z m

mutual
  part_sited : (p : Path) (l : Live) → Fits p l → SitedAt p (tree_lists p l)
  part_sited p (v.still n) f = λ z m. absurd m
  part_sited p (v.put_live n y) f = λ z m. absurd m
  part_sited p (v.element_live n made xs zs ls) f = below_at p (FromStep 0) (tree_lists_in p 0 ls) (body_sited p 0 ls f.2)
  part_sited p (v.branch_live y true c ls) f = outer_at main p ((main ∷ p, []) ∷ tree_lists_in (main ∷ p) 0 ls) (region_at (main ∷ p) (FromStep 0) [] (tree_lists_in (main ∷ p) 0 ls) (body_sited (main ∷ p) 0 ls f.1))
  part_sited p (v.branch_live y false c ls) f = outer_at otherwise p ((otherwise ∷ p, []) ∷ tree_lists_in (otherwise ∷ p) 0 ls) (region_at (otherwise ∷ p) (FromStep 0) [] (tree_lists_in (otherwise ∷ p) 0 ls) (body_sited (otherwise ∷ p) 0 ls f.1))
  part_sited p (v.listed y is) f = outer_at items p ((items ∷ p, spot_keys is) ∷ tree_lists_items (items ∷ p) is) (region_at (items ∷ p) (StepsIn is) (spot_keys is) (tree_lists_items (items ∷ p) is) (items_sited (items ∷ p) is f.1))
  part_sited p (v.unlisted y c ls) f = outer_at otherwise p ((otherwise ∷ p, []) ∷ tree_lists_in (otherwise ∷ p) 0 ls) (region_at (otherwise ∷ p) (FromStep 0) [] (tree_lists_in (otherwise ∷ p) 0 ls) (body_sited (otherwise ∷ p) 0 ls f.1))
  part_sited p (v.let_live made rs ls) f = outer_at main p (tree_lists_in (main ∷ p) 0 ls) (below_at (main ∷ p) (FromStep 0) (tree_lists_in (main ∷ p) 0 ls) (body_sited (main ∷ p) 0 ls f))
  part_sited p (v.component_live i made gm args b ls) f =
      outer_at (into f.0) p (tree_lists_in i.path 0 ls) (subst (λ q. SitedAt q (tree_lists_in i.path 0 ls)) f.1 (below_at i.path (FromStep 0) (tree_lists_in i.path 0 ls) (body_sited i.path 0 ls f.3)))
  part_sited p (v.yield_live n made rs ls) f = outer_at (slot n) p (tree_lists_in (slot n ∷ p) 0 ls) (below_at (slot n ∷ p) (FromStep 0) (tree_lists_in (slot n ∷ p) 0 ls) (body_sited (slot n ∷ p) 0 ls f))
  part_sited p (v.deep_live q) f = λ z m. absurd m

  items_sited : (p : Path) (is : Items) → FitsItems p is → Sited p (StepsIn is) (tree_lists_items p is)
  items_sited p v.no_items f = λ z m. absurd m
  items_sited p (v.item_live y c ls is) f =
      let l = item y.key y.occurrence in
      let S = StepsIn (v.item_live y c ls is) in
      sited_join p S (tree_lists_in (l ∷ p) 0 ls) (tree_lists_items p is)
      (at_step l p S (tree_lists_in (l ∷ p) 0 ls) (below_at (l ∷ p) (FromStep 0) (tree_lists_in (l ∷ p) 0 ls) (body_sited (l ∷ p) 0 ls f.1)) (inl refl))
      (sited_more p (StepsIn is) S (tree_lists_items p is) (λ m w. inr w) (items_sited p is f.2))

  body_sited : (p : Path) (i : ℕ) (ls : Lives) → FitsIn p i ls → Sited p (FromStep i) (tree_lists_in p i ls)
  body_sited p i v.no_lives f = λ z m. absurd m
  body_sited p i (v.live_and l ls) f =
      sited_join p (FromStep i) (tree_lists (at i ∷ p) l) (tree_lists_in p (suc i) ls)
      (at_step (at i) p (FromStep i) (tree_lists (at i ∷ p) l) (part_sited (at i ∷ p) l f.0) (i, omega arith, refl))
      (sited_more p (FromStep (suc i)) (FromStep i) (tree_lists_in p (suc i) ls) (λ m w. (w.0, (let e = w.1 in omega (arith, e)), w.2)) (body_sited p (suc i) ls f.1))

-- How many are moved in all

moves_join : (olds xs ys : Keyed) → moves_in_lists olds (xs ++ ys) ≡ moves_in_lists olds xs + moves_in_lists olds ys
moves_join olds [] ys = omega arith
moves_join olds (x ∷ xs) ys = let rest = moves_join olds xs ys in omega (arith, rest)

-- the keys at a path that stands in the one or the other alone
keys_left : (q : Path) (xs ys : Keyed) → ((b : Path × List Key) → Among b ys → q ≡ b.0 → ⊥) → keys_at q (xs ++ ys) ≡ keys_at q xs
keys_left q [] [] d = refl
keys_left q [] (y ∷ ys) d =
    ap (λ b. unwrap_or (if b then Some y.1 else at_path q ys) []) (path_other q y.0 (d y (inl refl))) ∙ keys_left q [] ys (λ b m. d b (inr m))
keys_left q (x ∷ xs) ys d = by (path_eq q x.0) (keys_left q xs ys d) where
  by : (b : Bool) → keys_at q (xs ++ ys) ≡ keys_at q xs → unwrap_or (if b then Some x.1 else at_path q (xs ++ ys)) [] ≡ unwrap_or (if b then Some x.1 else at_path q xs) []
  by true h = refl
  by false h = h

keys_right : (q : Path) (xs ys : Keyed) → ((b : Path × List Key) → Among b xs → q ≡ b.0 → ⊥) → keys_at q (xs ++ ys) ≡ keys_at q ys
keys_right q [] ys d = refl
keys_right q (x ∷ xs) ys d =
    ap (λ b. unwrap_or (if b then Some x.1 else at_path q (xs ++ ys)) []) (path_other q x.0 (d x (inl refl))) ∙ keys_right q xs ys (λ b m. d b (inr m))

same_keys : (xs ys zs : Keyed) → ((z : Path × List Key) → Among z zs → keys_at z.0 xs ≡ keys_at z.0 ys) → moves_in_lists xs zs ≡ moves_in_lists ys zs
same_keys xs ys [] h = refl
same_keys xs ys (z ∷ zs) h = ap₂ (λ ks n. moves_between ks z.1 + n) (h z (inl refl)) (same_keys xs ys zs (λ y m. h y (inr m)))

moves_left : (xs ys zs : Keyed) → Apart zs ys → moves_in_lists (xs ++ ys) zs ≡ moves_in_lists xs zs
moves_left xs ys zs d = same_keys (xs ++ ys) xs zs (λ z m. keys_left z.0 xs ys (λ b n. d z b m n))

moves_right : (xs ys zs : Keyed) → Apart zs xs → moves_in_lists (xs ++ ys) zs ≡ moves_in_lists ys zs
moves_right xs ys zs d = same_keys (xs ++ ys) ys zs (λ z m. keys_right z.0 xs ys (λ b n. d z b m n))

-- of what is new nothing is moved
no_moves : (ks : List Key) (before : List ℕ) → moves_from [] before ks ≡ 0
no_moves [] before = refl
no_moves (x ∷ ks) before = let rest = no_moves ks (before ++ []) in omega (arith, rest)

moves_of_new : (zs : Keyed) → moves_in_lists [] zs ≡ 0
moves_of_new [] = refl
moves_of_new (z ∷ zs) = ap₂ (λ a b. a + b) (no_moves z.1 []) (moves_of_new zs)

moves_apart : (xs zs : Keyed) → Apart zs xs → moves_in_lists xs zs ≡ 0
moves_apart xs zs d = same_keys xs [] zs (λ z m. keys_left z.0 [] xs (λ b n. d z b m n)) ∙ moves_of_new zs

-- a list at p on both sides, and what stands below it
moves_region : (p : Path) (S : PathStep → Type 0) (js ks : List Key) (xs zs : Keyed) → Sited p S zs
    → moves_in_lists ((p, js) ∷ xs) ((p, ks) ∷ zs) ≡ moves_between js ks + moves_in_lists xs zs
moves_region p S js ks xs zs f =
    ap₂ (λ o n. moves_between (unwrap_or o []) ks + n) (ap (λ b. if b then Some js else at_path p xs) (path_itself p))
    (moves_right ((p, js) ∷ []) xs zs (own_apart p S zs js f))

-- a branch at p on both sides, which has no items
moves_arm : (p : Path) (xs zs : Keyed) → Sited p (FromStep 0) zs → moves_in_lists ((p, []) ∷ xs) ((p, []) ∷ zs) ≡ moves_in_lists xs zs
moves_arm p xs zs f = let both = moves_region p (FromStep 0) [] [] xs zs f in omega (arith, both)

main_otherwise : main ≡ otherwise → ⊥
main_otherwise e = cc

items_otherwise : items ≡ otherwise → ⊥
items_otherwise e = cc

-- The old item of a key

is_same : (y z : ItemSpot) → z ≡ y → k.same_key (owned z.key, z.occurrence) (owned y.key, y.occurrence) ≡ true
is_same y z e = (same_key-Decides (owned z.key, z.occurrence) (owned y.key, y.occurrence)).1 (ap (λ (x : ItemSpot). (owned x.key, x.occurrence)) e)

both : (y z : ItemSpot) → z.key ≡ y.key → z.occurrence ≡ y.occurrence → same_key y z ≡ true
both y z key number =
    both_true _ _ (subst (λ x. same no_owners z.key x ≡ true) key (same_itself ⊥ no_owners no_owners-Decides z.key)) ((Decides-eqb z.occurrence y.occurrence).1 number)

other_step : (y z : ItemSpot) → same_key y z ≡ false → item z.key z.occurrence ≡ item y.key y.occurrence → ⊥
other_step y z e q =
    let key : z.key ≡ y.key = cc in
    let number : z.occurrence ≡ y.occurrence = cc in
    true≢false (sym (both y z key number) ∙ e)

is_other : (y z : ItemSpot) → same_key y z ≡ false → k.same_key (owned z.key, z.occurrence) (owned y.key, y.occurrence) ≡ false
is_other y z d = by (k.same_key (owned z.key, z.occurrence) (owned y.key, y.occurrence)) refl where
  by : (b : Bool) → k.same_key (owned z.key, z.occurrence) (owned y.key, y.occurrence) ≡ b → b ≡ false
  by false e = refl
  by true e =
      let q = (same_key-Decides (owned z.key, z.occurrence) (owned y.key, y.occurrence)).0 e in
      let key : z.key ≡ y.key = sym (unowned-owned z.key) ∙ ap (λ (x : Key). unowned x.0) q ∙ unowned-owned y.key in
      let number : z.occurrence ≡ y.occurrence = ap (λ (x : Key). x.1) q in
      absurd (true≢false (sym (both y z key number) ∙ d))

module _ (next : Kind → ℕ) where
  each : (p : Path) (is js : Items)
      → ((z : ItemSpot) (c : Option ℕ) (ls : Lives) → FitsIn (item z.key z.occurrence ∷ p) 0 ls → KeptBy next is z c ls
      → moves_in_lists (tree_lists_items p is) (tree_lists_in (item z.key z.occurrence ∷ p) 0 ls) ≡ kept_with (lives_with (owned z.key, z.occurrence) is) (λ ms. moved_bodies ms ls))
      → FitsItems p js → EachItem (KeptBy next is) js → moves_in_lists (tree_lists_items p is) (tree_lists_items p js) ≡ moved_items is js
  each p is v.no_items f g h = refl
  each p is (v.item_live z c ls js) f g h =
      moves_join (tree_lists_items p is) (tree_lists_in (item z.key z.occurrence ∷ p) 0 ls) (tree_lists_items p js) ∙ ap₂ (λ m n. m + n) (f z c ls g.1 h.0) (each p is js f g.2 h.1)

  mutual
    part : (p : Path) (l l' : Live) → Fits p l → Fits p l' → Keeps next l l' → moves_in_lists (tree_lists p l) (tree_lists p l') ≡ moved_between l l'
    part p (v.still n) (v.still n') f g h = refl
    part p (v.put_live n z) (v.put_live n' z') f g h = refl
    part p (v.element_live n made xs zs ls) (v.element_live n' made' xs' zs' ls') f g h = body p 0 ls ls' f.2 g.2 h.4
    part p (v.branch_live z true c ls) (v.branch_live z' true c' ls') f g h =
        moves_arm (main ∷ p) (tree_lists_in (main ∷ p) 0 ls) (tree_lists_in (main ∷ p) 0 ls') (body_sited (main ∷ p) 0 ls' g.1) ∙ body (main ∷ p) 0 ls ls' f.1 g.1 h.2
    part p (v.branch_live z false c ls) (v.branch_live z' false c' ls') f g h =
        moves_arm (otherwise ∷ p) (tree_lists_in (otherwise ∷ p) 0 ls) (tree_lists_in (otherwise ∷ p) 0 ls') (body_sited (otherwise ∷ p) 0 ls' g.1) ∙ body (otherwise ∷ p) 0 ls ls' f.1 g.1 h.2
    part p (v.branch_live z true c ls) (v.branch_live z' false c' ls') f g h =
        moves_apart ((main ∷ p, []) ∷ tree_lists_in (main ∷ p) 0 ls) ((otherwise ∷ p, []) ∷ tree_lists_in (otherwise ∷ p) 0 ls') (two_apart otherwise main p ((otherwise ∷ p, []) ∷ tree_lists_in (otherwise ∷ p) 0 ls') ((main ∷ p, []) ∷ tree_lists_in (main ∷ p) 0 ls) (λ e. main_otherwise (sym e))
        (region_at (otherwise ∷ p) (FromStep 0) [] (tree_lists_in (otherwise ∷ p) 0 ls') (body_sited (otherwise ∷ p) 0 ls' g.1)) (region_at (main ∷ p) (FromStep 0) [] (tree_lists_in (main ∷ p) 0 ls) (body_sited (main ∷ p) 0 ls f.1)))
    part p (v.branch_live z false c ls) (v.branch_live z' true c' ls') f g h =
        moves_apart ((otherwise ∷ p, []) ∷ tree_lists_in (otherwise ∷ p) 0 ls) ((main ∷ p, []) ∷ tree_lists_in (main ∷ p) 0 ls') (two_apart main otherwise p ((main ∷ p, []) ∷ tree_lists_in (main ∷ p) 0 ls') ((otherwise ∷ p, []) ∷ tree_lists_in (otherwise ∷ p) 0 ls) main_otherwise
        (region_at (main ∷ p) (FromStep 0) [] (tree_lists_in (main ∷ p) 0 ls') (body_sited (main ∷ p) 0 ls' g.1)) (region_at (otherwise ∷ p) (FromStep 0) [] (tree_lists_in (otherwise ∷ p) 0 ls) (body_sited (otherwise ∷ p) 0 ls f.1)))
    part p (v.listed z is) (v.listed z' js) f g h =
        moves_region (items ∷ p) (StepsIn js) (spot_keys is) (spot_keys js) (tree_lists_items (items ∷ p) is) (tree_lists_items (items ∷ p) js) (items_sited (items ∷ p) js g.1)
        ∙ ap (λ n. moves_between (spot_keys is) (spot_keys js) + n) (each (items ∷ p) is js (λ y c ls g' w. one (items ∷ p) is y c ls f.1 g' w) g.1 h.1)
    part p (v.listed z is) (v.unlisted z' c' ls') f g h =
        moves_apart ((items ∷ p, spot_keys is) ∷ tree_lists_items (items ∷ p) is) ((otherwise ∷ p, []) ∷ tree_lists_in (otherwise ∷ p) 0 ls') (two_apart otherwise items p ((otherwise ∷ p, []) ∷ tree_lists_in (otherwise ∷ p) 0 ls') ((items ∷ p, spot_keys is) ∷ tree_lists_items (items ∷ p) is) (λ e. items_otherwise (sym e))
        (region_at (otherwise ∷ p) (FromStep 0) [] (tree_lists_in (otherwise ∷ p) 0 ls') (body_sited (otherwise ∷ p) 0 ls' g.1)) (region_at (items ∷ p) (StepsIn is) (spot_keys is) (tree_lists_items (items ∷ p) is) (items_sited (items ∷ p) is f.1)))
    part p (v.unlisted z c ls) (v.listed z' js) f g h =
        moves_apart ((otherwise ∷ p, []) ∷ tree_lists_in (otherwise ∷ p) 0 ls) ((items ∷ p, spot_keys js) ∷ tree_lists_items (items ∷ p) js) (two_apart items otherwise p ((items ∷ p, spot_keys js) ∷ tree_lists_items (items ∷ p) js) ((otherwise ∷ p, []) ∷ tree_lists_in (otherwise ∷ p) 0 ls) items_otherwise
        (region_at (items ∷ p) (StepsIn js) (spot_keys js) (tree_lists_items (items ∷ p) js) (items_sited (items ∷ p) js g.1)) (region_at (otherwise ∷ p) (FromStep 0) [] (tree_lists_in (otherwise ∷ p) 0 ls) (body_sited (otherwise ∷ p) 0 ls f.1)))
    part p (v.unlisted z c ls) (v.unlisted z' c' ls') f g h =
        moves_arm (otherwise ∷ p) (tree_lists_in (otherwise ∷ p) 0 ls) (tree_lists_in (otherwise ∷ p) 0 ls') (body_sited (otherwise ∷ p) 0 ls' g.1) ∙ body (otherwise ∷ p) 0 ls ls' f.1 g.1 h.2
    part p (v.let_live made rs ls) (v.let_live made' rs' ls') f g h = body (main ∷ p) 0 ls ls' f g h.2
    part p (v.component_live i made gm args b ls) (v.component_live i' made' gm' args' b' ls') f g h =
        subst (λ (y : Inst). moves_in_lists (tree_lists_in i.path 0 ls) (tree_lists_in y.path 0 ls') ≡ moved_bodies ls ls') (sym h.0)
        (body i.path 0 ls ls' f.3 (subst (λ (y : Inst). FitsIn y.path 0 ls') h.0 g.3) h.4)
    part p (v.yield_live n made rs ls) (v.yield_live n' made' rs' ls') f g h =
        subst (λ m. moves_in_lists (tree_lists_in (slot n ∷ p) 0 ls) (tree_lists_in (slot m ∷ p) 0 ls') ≡ moved_bodies ls ls') (sym h.0)
        (body (slot n ∷ p) 0 ls ls' f (subst (λ m. FitsIn (slot m ∷ p) 0 ls') h.0 g) h.3)
    part p (v.deep_live q) (v.deep_live q') f g h = refl
    part p _ _ f g h = absurd h

    body : (p : Path) (i : ℕ) (ls ls' : Lives) → FitsIn p i ls → FitsIn p i ls' → KeepIn next ls ls' → moves_in_lists (tree_lists_in p i ls) (tree_lists_in p i ls') ≡ moved_bodies ls ls'
    body p i v.no_lives v.no_lives f g h = refl
    body p i (v.live_and l ls) (v.live_and l' ls') f g h =
        let a = tree_lists (at i ∷ p) l in
        let b = tree_lists_in p (suc i) ls in
        let a' = tree_lists (at i ∷ p) l' in
        let b' = tree_lists_in p (suc i) ls' in
        let here = sited_apart p (Only (at i)) (FromStep (suc i)) a' b (from_apart i) (at_step (at i) p (Only (at i)) a' (part_sited (at i ∷ p) l' g.0) refl) (body_sited p (suc i) ls f.1) in
        let rest = flipped a b' (sited_apart p (Only (at i)) (FromStep (suc i)) a b' (from_apart i) (at_step (at i) p (Only (at i)) a (part_sited (at i ∷ p) l f.0) refl) (body_sited p (suc i) ls' g.1)) in
        moves_join (a ++ b) a' b'
        ∙ ap₂ (λ m n. m + n) (moves_left a b a' here ∙ part (at i ∷ p) l l' f.0 g.0 h.0) (moves_right a b b' rest ∙ body p (suc i) ls ls' f.1 g.1 h.1)
    body p i _ _ f g h = absurd h

    -- an item of now, beside the old ones
    one : (p : Path) (is : Items) (z : ItemSpot) (c : Option ℕ) (ls : Lives) → FitsItems p is → FitsIn (item z.key z.occurrence ∷ p) 0 ls → KeptBy next is z c ls
        → moves_in_lists (tree_lists_items p is) (tree_lists_in (item z.key z.occurrence ∷ p) 0 ls) ≡ kept_with (lives_with (owned z.key, z.occurrence) is) (λ ms. moved_bodies ms ls)
    one p v.no_items z c ls f g h = moves_of_new (tree_lists_in (item z.key z.occurrence ∷ p) 0 ls)
    one p (v.item_live y j ms is) z c ls f g h =
        by (same_key y z) refl h (λ e w. body (item y.key y.occurrence ∷ p) 0 ms ls f.1 (subst (λ (x : ItemSpot). FitsIn (item x.key x.occurrence ∷ p) 0 ls) e g) w) (one p is z c ls f.2 g) where
          by : (d : Bool) → same_key y z ≡ d → WhereTrue d ((z ≡ y) × (c ≡ j) × KeepIn next ms ls) (KeptBy next is z c ls)
              → (z ≡ y → KeepIn next ms ls → moves_in_lists (tree_lists_in (item y.key y.occurrence ∷ p) 0 ms) (tree_lists_in (item y.key y.occurrence ∷ p) 0 ls) ≡ moved_bodies ms ls)
              → (KeptBy next is z c ls → moves_in_lists (tree_lists_items p is) (tree_lists_in (item z.key z.occurrence ∷ p) 0 ls) ≡ kept_with (lives_with (owned z.key, z.occurrence) is) (λ qs. moved_bodies qs ls))
              → moves_in_lists (tree_lists_in (item y.key y.occurrence ∷ p) 0 ms ++ tree_lists_items p is) (tree_lists_in (item z.key z.occurrence ∷ p) 0 ls)
              ≡ kept_with (if k.same_key (owned z.key, z.occurrence) (owned y.key, y.occurrence) then Some ms else lives_with (owned z.key, z.occurrence) is) (λ qs. moved_bodies qs ls)
          by true e w inside rest =
              let q = item y.key y.occurrence ∷ p in
              let now = tree_lists_in q 0 ls in
              let olds = tree_lists_in q 0 ms in
              let g1 : FitsIn q 0 ls = subst (λ (x : ItemSpot). FitsIn (item x.key x.occurrence ∷ p) 0 ls) w.0 g in
              let apart : Apart now (tree_lists_items p is) =
              sited_apart p (Only (item y.key y.occurrence)) (StepsIn is) now (tree_lists_items p is) (λ m u t. f.0 (subst (StepsIn is) u t))
              (at_step (item y.key y.occurrence) p (Only (item y.key y.occurrence)) now (below_at q (FromStep 0) now (body_sited q 0 ls g1)) refl) (items_sited p is f.2) in
              let here : moves_in_lists (olds ++ tree_lists_items p is) (tree_lists_in (item z.key z.occurrence ∷ p) 0 ls) ≡ moved_bodies ms ls =
              subst (λ (x : ItemSpot). moves_in_lists (olds ++ tree_lists_items p is) (tree_lists_in (item x.key x.occurrence ∷ p) 0 ls) ≡ moved_bodies ms ls) (sym w.0)
              (moves_left olds (tree_lists_items p is) now apart ∙ inside w.0 w.2) in
              here ∙ sym (ap (λ b. kept_with (if b then Some ms else lives_with (owned z.key, z.occurrence) is) (λ qs. moved_bodies qs ls)) (is_same y z w.0))
          by false e w inside rest =
              let olds = tree_lists_in (item y.key y.occurrence ∷ p) 0 ms in
              let now = tree_lists_in (item z.key z.occurrence ∷ p) 0 ls in
              let apart = two_apart (item z.key z.occurrence) (item y.key y.occurrence) p now olds (other_step y z e)
              (below_at (item z.key z.occurrence ∷ p) (FromStep 0) now (body_sited (item z.key z.occurrence ∷ p) 0 ls g)) (below_at (item y.key y.occurrence ∷ p) (FromStep 0) olds (body_sited (item y.key y.occurrence ∷ p) 0 ms f.1)) in
              moves_right olds (tree_lists_items p is) now apart
              ∙ (rest w ∙ sym (ap (λ b. kept_with (if b then Some ms else lives_with (owned z.key, z.occurrence) is) (λ qs. moved_bodies qs ls)) (is_other y z e)))

  pub trees_move : (l l' : Live) → FitsRoot l → FitsRoot l' → Keeps next l l' → moves_in_lists (tree_lists [] l) (tree_lists [] l') ≡ moved_between l l'
  trees_move (v.component_live i made gm args b ls) (v.component_live i' made' gm' args' b' ls') f g h =
      subst (λ (y : Inst). moves_in_lists (tree_lists_in i.path 0 ls) (tree_lists_in y.path 0 ls') ≡ moved_bodies ls ls') (sym h.0)
      (body i.path 0 ls ls' (subst (λ q. FitsIn q 0 ls) (sym f.0) f.2) (subst (λ q. FitsIn q 0 ls') (sym f.0) g.2) h.4)
  trees_move (v.deep_live q) (v.deep_live q') f g h = refl
  trees_move (v.component_live i made gm args b ls) _ f g h = absurd h
  trees_move (v.deep_live q) _ f g h = absurd h
  trees_move _ _ f g h = absurd f

pub updated_moves_between : UpdatedMovesBetween
updated_moves_between app σ τ sets st l h cells =
    let r = renew_app app τ l st in
    updated_moves app σ τ sets st l (plans_for (tree_lists [] l) (tree_lists [] r.0)) h cells (are_plans (tree_lists [] l) (tree_lists [] r.0))
    ∙ (plans_move (tree_lists [] l) (tree_lists [] r.0)
    ∙ trees_move st.next l r.0 (tree_agrees app σ τ st l h).1 (tree_agrees app τ τ r.1 r.0 (updated_stands app σ τ st l h cells)).1 (ids_are_kept app σ τ st l h cells))
