-- A position that is read again, where it is stale, has what is read now.
use Rattle.gl_plain.specs.Reads.{IdsBelow, ReadsLower, RowsReadLower}
use Rattle.std.proofs.Common.{◌≡◌, ◌≢◌, ℕ, ◌<◌, ◌||◌, Bool, true, false, true≢false, List, [], ◌∷◌, ◌++◌, map, Option, Some, None, refl, sym, ◌∙◌, ap, subst, arith, inl, inr, ◌⊎◌}
use Rattle.std.specs.Prelude.{if◌then◌else◌, nat_eq}
use Rattle.std.specs.List.{list_any}
use Rattle.std.proofs.lemmas.Bool.Decides.{eqb_tells}
use Rattle.gl_base.specs.Texts.{Text}
use Rattle.gl_ast.specs.Template.{AttrValue}
use Rattle.gl_meaning.specs.App.{App}
use Rattle.gl_meaning.specs.Path.{Path}
use Rattle.gl_meaning.specs.Scope.{Source, cell, Pair, absent, NamedPairs, Scope, Passed, passed_of, with_locals, bind, sources_of}
use Rattle.gl_meaning.specs.Eval.{Store, cell_value, eval_given}
use Rattle.gl_meaning.specs.Laws.{Untouched, Keeps, KeepsAll, keeps_none, keeps_more}
use Rattle.gl_meaning.proofs.Frame.{KeepsNames, names_none, names_more, KeepsScope, keeps_scope, KeepsPassed, keeps_nothing, keeps_passed, keeps_itself, keeps_list, value_keeps}
use Rattle.gl_plain.specs.Ids.{Id, id_eq, ref, occurs}
use Rattle.gl_plain.specs.State.{any_of, all_form, Row, MScope, writer, row, Thing, State, thing_pair, pair_of, put_thing, note_evaluated, dropped}
use Rattle.gl_plain.specs.Binding.{Spot}
use Rattle.gl_plain.specs.Renew.{spot_ids, spot_pairs, last_of, is_stale, evaluate, reread}
use Rattle.gl_plain.specs.Stands.{SpottedIn, below, CellsIn, SpotThing, Spotted, Owned}
use Rattle.gl_plain.proofs.Moves.{Moves, id_case, IdCase, hit_other, hit_self}
use Rattle.gl_plain.proofs.Pairs.{obeys_pairs}

-- What is untouched so far.
abbrev pub Cold : State → Source → Type 0
Cold st x = st.touched x ≡ false

-- the cells that are untouched hold what they held
abbrev pub CellsKeep : App → Store → Store → State → Type 0
CellsKeep app σ τ st = (i : Path) (x : Text) → Cold st (cell i x) → cell_value app σ i x ≡ cell_value app τ i x

module _ (U W : Source → Type 0) (less : (x : Source) → W x → U x) where
  untouched_less : (xs : List Source) → Untouched W xs → Untouched U xs
  untouched_less [] h = tt
  untouched_less (x ∷ xs) h = (less x h.0, untouched_less xs h.1)

  keeps_less : (v w : Pair) → Keeps U v w → Keeps W v w
  keeps_less v w k u = k (untouched_less v.sources u)

  pub all_less : {vs ws : List Pair} → KeepsAll U vs ws → KeepsAll W vs ws
  all_less keeps_none = keeps_none
  all_less (keeps_more {v = v} {w = w} k ks) = keeps_more (keeps_less v w k) (all_less ks)

  names_less : {vs ws : NamedPairs} → KeepsNames U vs ws → KeepsNames W vs ws
  names_less names_none = names_none
  names_less (names_more {v = v} {w = w} k ks) = names_more (keeps_less v w k) (names_less ks)

  mutual
    pub scope_less : {v w : Scope} → KeepsScope U v w → KeepsScope W v w
    scope_less (keeps_scope a l p) = keeps_scope (names_less a) (names_less l) (passed_less p)

    pub passed_less : {v w : Passed} → KeepsPassed U v w → KeepsPassed W v w
    passed_less keeps_nothing = keeps_nothing
    passed_less (keeps_passed k) = keeps_passed (scope_less k)

module _ (U : Source → Type 0) where
  names_both : {vs ws xs ys : NamedPairs} → KeepsNames U vs ws → KeepsNames U xs ys → KeepsNames U (vs ++ xs) (ws ++ ys)
  names_both names_none k = k
  names_both (names_more h hs) k = names_more h (names_both hs k)

  pub keeps_locals : {v w : Scope} {xs ys : NamedPairs} → KeepsScope U v w → KeepsNames U xs ys → KeepsScope U (with_locals xs v) (with_locals ys w)
  keeps_locals (keeps_scope a l p) k = keeps_scope a (names_both l k) p

  passed_writer : {v w : Passed} → KeepsPassed U v w → KeepsScope U (writer v) (writer w)
  passed_writer keeps_nothing = keeps_scope names_none names_none keeps_nothing
  passed_writer (keeps_passed k) = k

  pub keeps_writer : {v w : Scope} → KeepsScope U v w → KeepsScope U (writer (passed_of v)) (writer (passed_of w))
  keeps_writer (keeps_scope a l p) = passed_writer p

  pub keeps_bind : {vs ws : List Pair} → (ns : List Text) → KeepsAll U vs ws → KeepsNames U (bind ns vs) (bind ns ws)
  keeps_bind [] k = names_none
  keeps_bind (n ∷ ns) keeps_none = names_more (keeps_itself U absent) (keeps_bind ns keeps_none)
  keeps_bind (n ∷ ns) (keeps_more k ks) = names_more k (keeps_bind ns ks)

  pub keeps_given : (app : App) (σ τ : Store) → ((i : Path) (x : Text) → U (cell i x) → cell_value app σ i x ≡ cell_value app τ i x)
      → {v w : Scope} → KeepsScope U v w → (gs : List (Text × AttrValue)) → KeepsNames U (eval_given app σ v gs) (eval_given app τ w gs)
  keeps_given app σ τ cells k [] = names_none
  keeps_given app σ τ cells k (g ∷ gs) = names_more (value_keeps U app σ τ cells k g.1) (keeps_given app σ τ cells k gs)

-- no source was touched
or_left : (a b : Bool) → (a || b) ≡ false → a ≡ false
or_left false b e = refl
or_left true b e = absurd (true≢false e)

or_right : (a b : Bool) → (a || b) ≡ false → b ≡ false
or_right false b e = e
or_right true b e = absurd (true≢false e)

pub none_touched : (st : State) (xs : List Source) → list_any st.touched xs ≡ false → Untouched (Cold st) xs
none_touched st [] e = tt
none_touched st (x ∷ xs) e = (or_left (st.touched x) (list_any st.touched xs) e, none_touched st xs (or_right (st.touched x) (list_any st.touched xs) e))

-- Steps on what is owned

-- another thing for an id of the part
pub put_moves : (st : State) (count : Id → ℕ) (i : Id) (x : Thing) → Owned st count → 0 < count i → (RowsReadLower st.look → (n : ℕ) → ref n ≡ i → ReadsLower n (Some x)) → Moves st (put_thing i x st) count count
put_moves st count i x o w fits = record {
  kept = λ q lt zero. ap (λ b. if b then Some x else st.look q) (by q zero (id_case q i));
  more = λ q. omega arith;
  fewer = λ q lt. omega arith;
  once = o.once;
  old = o.old;
  still = λ y e. e;
  gone = λ q lt c z. absurd (omega (arith, c, z));
  lower = λ l n. reads_lower l n (id_case (ref n) i);
} where
  reads_lower : RowsReadLower st.look → (n : ℕ) → IdCase (ref n) i → ReadsLower n ((put_thing i x st).look (ref n))
  reads_lower l n (inl e) = subst (λ b. ReadsLower n (if b then Some x else st.look (ref n))) (sym e.0) (fits l n e.1)
  reads_lower l n (inr e) = subst (λ b. ReadsLower n (if b then Some x else st.look (ref n))) (sym e) (l n)

  by : (q : Id) → count q ≡ 0 → IdCase q i → id_eq q i ≡ false
  by q z (inl e) = let k : count q ≡ count i = ap count e.1 in absurd (omega (arith, z, k, w))
  by q z (inr e) = e

pub same_moves : (st : State) (count : Id → ℕ) → Owned st count → Moves st st count count
same_moves st count o = record { kept = λ q lt zero. refl; more = λ q. omega arith; fewer = λ q lt. omega arith; once = o.once; old = o.old; still = λ y e. e; gone = λ q lt c z. absurd (omega (arith, c, z)); lower = λ l. l }

pub noted_move : (st st' : State) (a a' : Id → ℕ) (r : ℕ) → Moves st st' a a' → Moves st (note_evaluated r st') a a'
noted_move st st' a a' r m = record { kept = m.kept; more = m.more; fewer = m.fewer; once = m.once; old = m.old; still = m.still; gone = m.gone; lower = m.lower }

-- a part that goes
pub drop_moves : (st : State) (count : Id → ℕ) → Moves st (dropped count st) count (λ q. 0)
drop_moves st count = record {
  kept = λ q lt zero. ap (λ b. if b then st.look q else None) (by q zero (eqb_tells (count q) 0));
  more = λ q. omega arith;
  fewer = λ q lt. omega arith;
  once = λ q. omega arith;
  old = λ q le. refl;
  still = λ y e. e;
  gone = λ q lt w z. ap (λ b. if b then st.look q else None) (by_not q w (eqb_tells (count q) 0));
  lower = λ l n. reads_lower n (l n) (nat_eq (count (ref n)) 0);
} where
  reads_lower : (n : ℕ) → ReadsLower n (st.look (ref n)) → (b : Bool) → ReadsLower n (if b then st.look (ref n) else None)
  reads_lower n l true = l
  reads_lower n l false = tt

  by_not : (q : Id) → 0 < count q → ((nat_eq (count q) 0 ≡ true) × (count q ≡ 0)) ⊎ ((nat_eq (count q) 0 ≡ false) × (count q ≢ 0)) → nat_eq (count q) 0 ≡ false
  by_not q w (inl e) = let k = e.1 in absurd (omega (arith, w, k))
  by_not q w (inr e) = e.0

  by : (q : Id) → count q ≡ 0 → ((nat_eq (count q) 0 ≡ true) × (count q ≡ 0)) ⊎ ((nat_eq (count q) 0 ≡ false) × (count q ≢ 0)) → nat_eq (count q) 0 ≡ true
  by q z (inl e) = e.0
  by q z (inr e) = absurd (e.1 z)

-- Positions

-- the pairs that are read now, and those of before where nothing was touched
pub stale_in : (app : App) (τ : Store) (ms : MScope) (more : List Id) (z : Spot) (E : Store → (ℕ → Pair) → List Pair) (old new : List Pair) (st : State)
    → SpottedIn app st.look ms more z E old → CellsIn app τ (pair_of st.look) ms → E τ (pair_of st.look) ≡ new → spot_pairs st z.ref ≡ new
stale_in app τ ms more z E old new st h c e = h.is.1 (pair_of st.look) τ (obeys_pairs st.look (more ++ z.made)) c ∙ e

pub cold_in : (app : App) (ms : MScope) (more : List Id) (z : Spot) (E : Store → (ℕ → Pair) → List Pair) (old new : List Pair) (st : State)
    → SpottedIn app st.look ms more z E old → KeepsAll (Cold st) old new → is_stale st z.ref ≡ false → old ≡ new
cold_in app ms more z E old new st h k e = keeps_list (Cold st) k (none_touched st (sources_of old) (sym (ap (λ t. last_of t st.touched) h.is.0) ∙ e))

-- after an evaluation
pub evaluated_in : (app : App) (ms : MScope) (more : List Id) (z : Spot) (E : Store → (ℕ → Pair) → List Pair) (old new : List Pair) (st : State)
    → SpottedIn app st.look ms more z E old → spot_pairs st z.ref ≡ new → SpottedIn app (evaluate z.ref st).look ms more z E new
evaluated_in app ms more z E old new st h e =
    let r = z.ref in
    let ids = spot_ids (st.look (ref r)) in
    let y : Row = record { form = all_form ids; last = any_of (sources_of (spot_pairs st r)) } in
    let st' = evaluate r st in
    let at : st'.look (ref r) ≡ Some (row y) = ap (λ b. if b then Some (row y) else st.look (ref r)) (id_same (ref r)) in
    record {
      own = h.own;
      is = subst (SpotThing app st'.look ms (more ++ z.made) E new) (sym at) (
        ap (λ us. Some (row (record { form = all_form ids; last = any_of (sources_of us) }))) e,
        λ f ρ ob c. h.is.1 f ρ (λ q w. ob q w ∙ same q (id_case (ref q) (ref r)) (below q f)) c,
      );
    }
  where
    id_same : (q : Id) → id_eq q q ≡ true
    id_same q = by (id_case q q) where
      by : IdCase q q → id_eq q q ≡ true
      by (inl e) = e.0
      by (inr e) = let a = hit_other q q e in let c = hit_self q in absurd (omega (arith, a, c))

    same : (q : ℕ) → IdCase (ref q) (ref z.ref) → (g : ℕ → Pair) → thing_pair g ((evaluate z.ref st).look (ref q)) ≡ thing_pair g (st.look (ref q))
    same q (inr e) g = ap (λ b. thing_pair g (if b then Some (row (record { form = all_form (spot_ids (st.look (ref z.ref))); last = any_of (sources_of (spot_pairs st z.ref)) })) else st.look (ref q))) e
    same q (inl e) g =
        ap (λ b. thing_pair g (if b then Some (row (record { form = all_form (spot_ids (st.look (ref z.ref))); last = any_of (sources_of (spot_pairs st z.ref)) })) else st.look (ref q))) e.0
        ∙ (sym (ap (thing_pair g) h.is.0) ∙ ap (λ i. thing_pair g (st.look i)) (sym e.1))

pub cold_spot_in : (app : App) (ms : MScope) (more : List Id) (z : Spot) (E : Store → (ℕ → Pair) → List Pair) (old new : List Pair) (look : Id → Option Thing)
    → SpottedIn app look ms more z E old → old ≡ new → SpottedIn app look ms more z E new
cold_spot_in app ms more z E old new look h e = subst (SpottedIn app look ms more z E) e h

-- so where a position reads none but its own
pub stale_pairs : (app : App) (τ : Store) (ms : MScope) (z : Spot) (E : Store → (ℕ → Pair) → List Pair) (old new : List Pair) (st : State)
    → Spotted app st.look ms z E old → CellsIn app τ (pair_of st.look) ms → E τ (pair_of st.look) ≡ new → spot_pairs st z.ref ≡ new
stale_pairs app τ ms z = stale_in app τ ms [] z

pub cold_pairs : (app : App) (ms : MScope) (z : Spot) (E : Store → (ℕ → Pair) → List Pair) (old new : List Pair) (st : State)
    → Spotted app st.look ms z E old → KeepsAll (Cold st) old new → is_stale st z.ref ≡ false → old ≡ new
cold_pairs app ms z = cold_in app ms [] z

pub evaluated_spot : (app : App) (ms : MScope) (z : Spot) (E : Store → (ℕ → Pair) → List Pair) (old new : List Pair) (st : State)
    → Spotted app st.look ms z E old → spot_pairs st z.ref ≡ new → Spotted app (evaluate z.ref st).look ms z E new
evaluated_spot app ms z = evaluated_in app ms [] z

pub cold_spot : (app : App) (ms : MScope) (z : Spot) (E : Store → (ℕ → Pair) → List Pair) (old new : List Pair) (look : Id → Option Thing)
    → Spotted app look ms z E old → old ≡ new → Spotted app look ms z E new
cold_spot app ms z = cold_spot_in app ms [] z

-- a position that is evaluated reads what it read
pub reads_same : (st : State) (r : ℕ) (last : (Source → Bool) → Bool) → st.look (ref r) ≡ Some (row (record { form = all_form (spot_ids (st.look (ref r))); last = last }))
    → RowsReadLower st.look → (n : ℕ) → ref n ≡ ref r → ReadsLower n (Some (row (record { form = all_form (spot_ids (st.look (ref r))); last = any_of (sources_of (spot_pairs st r)) })))
reads_same st r last at l n e = subst (λ i. IdsBelow i (spot_ids (st.look (ref r)))) (sym (ap (λ q. q.num) e)) (subst (ReadsLower r) at (l r))

-- a position that is read again where it is stale
pub record Reread (app : App) (ms : MScope) (z : Spot) (E : Store → (ℕ → Pair) → List Pair) (new : List Pair) (st st' : State) : Type 0 where
  pub moves : Moves st st' (λ q. occurs q z.made) (λ q. occurs q z.made)
  pub spotted : Spotted app st'.look ms z E new
  pub shows : spot_pairs st' z.ref ≡ new

pub spot_shows_in : (app : App) (τ : Store) (ms : MScope) (more : List Id) (z : Spot) (E : Store → (ℕ → Pair) → List Pair) (new : List Pair) (look : Id → Option Thing)
    → SpottedIn app look ms more z E new → CellsIn app τ (pair_of look) ms → E τ (pair_of look) ≡ new → map (pair_of look) (spot_ids (look (ref z.ref))) ≡ new
spot_shows_in app τ ms more z E new look h c e = h.is.1 (pair_of look) τ (obeys_pairs look (more ++ z.made)) c ∙ e

pub spot_shows : (app : App) (τ : Store) (ms : MScope) (z : Spot) (E : Store → (ℕ → Pair) → List Pair) (new : List Pair) (look : Id → Option Thing)
    → Spotted app look ms z E new → CellsIn app τ (pair_of look) ms → E τ (pair_of look) ≡ new → map (pair_of look) (spot_ids (look (ref z.ref))) ≡ new
spot_shows app τ ms z = spot_shows_in app τ ms [] z

pub reread_moves : (st : State) (z : Spot) (last : (Source → Bool) → Bool) → Owned st (λ q. occurs q z.made) → 0 < occurs (ref z.ref) z.made
    → st.look (ref z.ref) ≡ Some (row (record { form = all_form (spot_ids (st.look (ref z.ref))); last = last })) → Moves st (reread z.ref st) (λ q. occurs q z.made) (λ q. occurs q z.made)
reread_moves st z last o w at = by (is_stale st z.ref) where
  by : (b : Bool) → Moves st (if b then evaluate z.ref st else st) (λ q. occurs q z.made) (λ q. occurs q z.made)
  by true = noted_move st _ (λ q. occurs q z.made) (λ q. occurs q z.made) z.ref (put_moves st (λ q. occurs q z.made) (ref z.ref) _ o w (reads_same st z.ref last at))
  by false = same_moves st (λ q. occurs q z.made) o

pub reread_spot : (app : App) (τ : Store) (ms : MScope) (z : Spot) (E : Store → (ℕ → Pair) → List Pair) (old new : List Pair) (st : State)
    → Spotted app st.look ms z E old → CellsIn app τ (pair_of st.look) ms → E τ (pair_of st.look) ≡ new → KeepsAll (Cold st) old new
    → Spotted app (reread z.ref st).look ms z E new
reread_spot app τ ms z E old new st h c e k = by (is_stale st z.ref) refl where
  by : (b : Bool) → is_stale st z.ref ≡ b → Spotted app (if b then evaluate z.ref st else st).look ms z E new
  by true s = evaluated_spot app ms z E old new st h (stale_pairs app τ ms z E old new st h c e)
  by false s = cold_spot app ms z E old new st.look h (cold_pairs app ms z E old new st h k s)
