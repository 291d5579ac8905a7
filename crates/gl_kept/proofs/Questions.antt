-- An update asks at most as much as the meaning says.
use Rattle.std.proofs.Common.{◌≡◌, ◌+◌, ◌≤◌, ℕ, zero, suc, List, [], ◌∷◌, ◌++◌, map, Bool, true, false, Option, Some, None, refl, sym, ap, ap₂, ◌∙◌, subst, arith}
use Rattle.std.specs.Prelude.{filter, sum, cond, if◌then◌else◌, ◌&&◌, ◌||◌}
use Rattle.std.specs.List.{list_any}
use Rattle.std.proofs.lemmas.List.Folds.{list_any-append}
use Rattle.std.proofs.lemmas.List.Sums.{sum_by-cons}
use mathlib.Core.Path.{fun_ext}
use Rattle.gl_meaning.specs.App.{App}
use Rattle.gl_meaning.specs.Path.{Path, has_path}
use Rattle.gl_meaning.specs.Scope.{nothing_passed}
use Rattle.gl_meaning.specs.Eval.{Store}
use Rattle.gl_meaning.specs.Render.{Forest, Piece, components_at, draw}
use Rattle.gl_meaning.specs.Changes.{pieces, regions, region_path, positions, touched, some_touched, Sets}
use Rattle.gl_meaning.specs.Work.{members, region_forest, persists_region, is_open}
use Rattle.gl_plain.specs.Ids.{Id}
use Rattle.gl_plain.specs.State.{Thing, State}
use Rattle.gl_plain.specs.Live.{AttrSpot, ModSpot, Live, still, put_live, element_live, branch_live, listed, unlisted, let_live, component_live, yield_live, deep_live, Items, no_items, item_live, Lives, no_lives, live_and}
use Rattle.gl_plain.specs.Renew.{is_stale, renew_app}
use Rattle.gl_plain.specs.Counts.{attr_positions, mod_positions, positions_of, positions_in, positions_items}
use Rattle.gl_plain.specs.Guards.{AttrsFresh, ModsFresh, NoneStale, NoneStaleIn, NoneStaleItems}
use Rattle.gl_plain.specs.Machine.{RootStands}
use Rattle.gl_plain.proofs.Roots.{updated_stands}
use Rattle.gl_turns.proofs.Sources.{touched_is_touched}
use Rattle.gl_kept.specs.Asked.{regions_of, asks, asks_in}
use Rattle.gl_kept.specs.Laws.{AskedAtMost, RegionsAreThere, FreshAsksOnce}
use Rattle.gl_kept.proofs.Asking.{path_stays, weight, opened}
use Rattle.gl_kept.proofs.Asked.{root_asks}

pub regions_are_there : RegionsAreThere
regions_are_there app σ τ st l s = (root_asks st.look st.touched (λ q. false) app σ τ app.limit l s.stands).regions

-- what open regions add is what the meaning adds up
module _ (look : Id → Option Thing) (old new : Forest) (sets : Sets) where
  abbrev stays : Path → Bool
  stays q = has_path q (regions new)

  same_path : (o : Option Path) → path_stays look (touched old new sets) stays o ≡ persists_region new o
  same_path None = refl
  same_path (Some q) = refl

  weight_is : (x : Piece) → weight look (touched old new sets) stays x ≡ (if is_open old new sets x then members (region_forest x) else 0)
  weight_is x = ap (λ b. if b && list_any (λ q. some_touched old new sets q.pairs) (positions (region_forest x)) then members (region_forest x) else 0) (same_path (region_path x))

  opened_is : (xs : List Piece) → opened look (touched old new sets) stays xs ≡ sum (map (λ r. members (region_forest r)) (filter (is_open old new sets) xs))
  opened_is [] = refl
  opened_is (x ∷ xs) = by (is_open old new sets x) (weight_is x) (opened_is xs) where
    by : (b : Bool) → weight look (touched old new sets) stays x ≡ (if b then members (region_forest x) else 0)
        → opened look (touched old new sets) stays xs ≡ sum (map (λ r. members (region_forest r)) (filter (is_open old new sets) xs))
        → weight look (touched old new sets) stays x + opened look (touched old new sets) stays xs ≡ sum (map (λ r. members (region_forest r)) (cond b (x ∷ filter (is_open old new sets) xs) (filter (is_open old new sets) xs)))
    by true w h =
        let rest = map (λ r. members (region_forest r)) (filter (is_open old new sets) xs) in
        let s : sum (members (region_forest x) ∷ rest) ≡ members (region_forest x) + sum rest = sum_by-cons (λ n. n) (members (region_forest x)) rest in omega (arith, w, h, s)
    by false w h = omega (arith, w, h)

root_members : (m : ℕ) (app : App) (σ : Store) → members (components_at m app σ [] [] nothing_passed) ≤ 1
root_members zero app σ = omega arith
root_members (suc m) app σ = omega arith

pub asked_at_most : AskedAtMost
asked_at_most app σ τ sets st l s only by =
    let r = renew_app app τ l st in
    let old = draw app σ in
    let new = draw app τ in
    let e : r.1.touched ≡ touched old new sets = fun_ext (touched_is_touched app σ τ sets st l s only by) in
    let f : regions_of [] r.0 ≡ regions new = regions_are_there app τ τ r.1 r.0 (updated_stands app σ τ st l s only) in
    let same : asks st.look r.1.touched (λ q. has_path q (regions_of [] r.0)) [] l ≡ asks st.look (touched old new sets) (λ q. has_path q (regions new)) [] l =
    ap₂ (λ t rs. asks st.look t (λ q. has_path q rs) [] l) e f in
    let b = (root_asks st.look (touched old new sets) (λ q. has_path q (regions new)) app σ τ app.limit l s.stands).bound in
    let w = opened_is st.look old new sets (pieces old) in
    let m = root_members app.limit app σ in
    omega (arith, same, b, w, m)

-- Where no position is stale

or_none : (a b : Bool) → a ≡ false → b ≡ false → (a || b) ≡ false
or_none false b e f = f
or_none true b e f = e

module _ (st : State) where
  abbrev Stale : List ℕ → Bool
  Stale rs = list_any (λ r. is_stale st r) rs

  both_fresh : (xs ys : List ℕ) → Stale xs ≡ false → Stale ys ≡ false → Stale (xs ++ ys) ≡ false
  both_fresh xs ys e f = list_any-append (λ r. is_stale st r) xs ys ∙ or_none (Stale xs) (Stale ys) e f

  attrs_fresh : (xs : List AttrSpot) → AttrsFresh st xs → Stale (attr_positions xs) ≡ false
  attrs_fresh [] h = refl
  attrs_fresh (a ∷ xs) h = or_none (is_stale st a.spot.ref) (Stale (attr_positions xs)) h.0 (attrs_fresh xs h.1)

  mods_fresh : (zs : List ModSpot) → ModsFresh st zs → Stale (mod_positions zs) ≡ false
  mods_fresh [] h = refl
  mods_fresh (z ∷ zs) h = or_none (is_stale st z.spot.ref) (Stale (mod_positions zs)) h.0 (mods_fresh zs h.1)

  mutual
    fresh_of : (l : Live) → NoneStale st l → Stale (positions_of l) ≡ false
    fresh_of (still n) h = refl
    fresh_of (put_live n z) h = or_none (is_stale st z.ref) false h refl
    fresh_of (element_live n made xs zs ls) h = both_fresh (attr_positions xs) (positions_in ls ++ mod_positions zs) (attrs_fresh xs h.0) (both_fresh (positions_in ls) (mod_positions zs) (fresh_in ls h.2) (mods_fresh zs h.1))
    fresh_of (branch_live z u k ls) h = or_none (is_stale st z.ref) (Stale (positions_in ls)) h.0 (fresh_in ls h.1)
    fresh_of (listed z is) h = or_none (is_stale st z.ref) (Stale (positions_items is)) h.0 (fresh_items is h.1)
    fresh_of (unlisted z k ls) h = or_none (is_stale st z.ref) (Stale (positions_in ls)) h.0 (fresh_in ls h.1)
    fresh_of (let_live made rs ls) h = fresh_in ls h
    fresh_of (component_live i made gm args b ls) h = fresh_in ls h
    fresh_of (yield_live n made rs ls) h = fresh_in ls h
    fresh_of (deep_live q) h = refl

    fresh_items : (is : Items) → NoneStaleItems st is → Stale (positions_items is) ≡ false
    fresh_items no_items h = refl
    fresh_items (item_live z k ls is) h = both_fresh (positions_in ls) (positions_items is) (fresh_in ls h.0) (fresh_items is h.1)

    fresh_in : (ls : Lives) → NoneStaleIn st ls → Stale (positions_in ls) ≡ false
    fresh_in no_lives h = refl
    fresh_in (live_and l ls) h = both_fresh (positions_of l) (positions_in ls) (fresh_of l h.0) (fresh_in ls h.1)

valid_once : (s t : Bool) (n : ℕ) → t ≡ false → 1 + (if s && t then n else 0) ≤ 1
valid_once true true n e = absurd (Rattle.std.proofs.Common.true≢false e)
valid_once true false n e = omega arith
valid_once false t n e = omega arith

root_once : (app : App) (σ τ : Store) (m : ℕ) (st : State) (l : Live) → RootStands app σ τ st.look m l → NoneStale st l → (stays : Path → Bool) → asks st.look st.touched stays [] l ≤ 1
root_once app σ τ (suc m) st (component_live i made gm args None ls) h f stays = valid_once (stays i.path) (list_any (λ r. is_stale st r) (positions_in ls)) (asks_in st.look st.touched stays i.path 0 ls) (fresh_in st ls f)
root_once app σ τ zero st (deep_live q) h f stays = omega arith
root_once app σ τ _ st _ h f stays = absurd h

pub fresh_asks_once : FreshAsksOnce
fresh_asks_once app σ τ st l s f stays = root_once app σ τ app.limit st l s.stands f stays
