-- What an update counts: the nodes that are new are those that were made, and the positions that are evaluated are new or old ones of the new tree, in order.
use Rattle.std.proofs.Common.{◌≡◌, ◌<◌, ◌≤◌, ◌+◌, ℕ, zero, suc, max, List, [], ◌∷◌, ◌++◌, Bool, true, false, true≢false, Option, Some, None, cond, refl, sym, ◌∙◌, ap, ap₂, subst, arith, inl, inr, ◌⊎◌}
use Rattle.std.specs.Prelude.{if◌then◌else◌, filter, nat_le, ◌||◌}
use Rattle.std.proofs.lemmas.Bool.{le-leb}
use Rattle.std.proofs.lemmas.Bool.Decides.{leb_tells, Decides-eqb}
use Rattle.std.proofs.lemmas.List.{append-nil, append_assoc}
use Rattle.std.proofs.lemmas.List.Elements.{filter-append}
use Rattle.gl_base.specs.Texts.{Text}
use Rattle.gl_value.specs.Value.{Values, no_values, value, text_of, count_value, same}
use Rattle.gl_ast.specs.Template as t
use Rattle.gl_meaning.specs.App.{App}
use Rattle.gl_meaning.specs.Path.{PathStep, at, main, otherwise, items, item, into, slot, Path, V, path_eq, no_owners}
use Rattle.gl_meaning.specs.Scope.{Source, item_value, item_index, Pair, sources_of, Scope, scope, nothing_passed, passed, passed_of, with_locals, bind}
use Rattle.gl_meaning.specs.Laws.{Within, AtOrAbove, Owners, OwnersAll, PairsIn, source_path}
use Rattle.gl_meaning.proofs.Above.{owners_more}
use Rattle.gl_meaning.proofs.Once.{Distinct, distinct}
use Rattle.gl_meaning.proofs.Under.{within_itself}
use Rattle.gl_meaning.specs.Eval.{Store, class_at, cell_value, eval_all, eval_given, takes_first, values_in}
use Rattle.gl_meaning.specs.Parts.{WrittenValue, WrittenModifier, attribute_value, taken_pairs}
use Rattle.gl_meaning.specs.Render.{Entry, entries, entry_pairs, values_listed, Block, block_named}
use Rattle.gl_meaning.proofs.Equal.{both_left, both_right, same_means, no_owners-Decides}
use Rattle.gl_plain.specs.Ids.{a_ref, a_node, Id, id_eq, ref, node, modifier_id, hit, occurs}
use Rattle.gl_plain.specs.State.{any_of, source_form, MScope, mscope, mnothing, mpassed, passed_in, mslots, mwriter, writer, source_eq, named_as, with_names, content, text_content, row, modifier_row, Thing, State, put_thing, note_updated, dropped, touch, held_value}
use Rattle.gl_plain.specs.Binding.{Spot, first_value}
use Rattle.gl_plain.specs.Live.{AttrSpot, ModSpot, Live, Lives, Items, item_made, times, times_in, times_items, times_comment, times_attrs, times_mods, item_names}
use Rattle.gl_plain.specs.Live
use Rattle.gl_plain.specs.Grow.{Arm, or_comment, ItemGrown, grow_entries, branch_from, listed_from, unlisted_from, grow_components, grow_yields}
use Rattle.gl_plain.specs.Renew.{spot_pairs, last_of, is_stale, evaluate, reread, changed_attr, renew_attrs, refreshed, renew_mods, give, Handle, times_handle, times_handles, is_of, with_front, taken, renew_item, sync_one, sync, where_values, where_block, fresh_body, fresh_items, renew, renew_body, handles, renew_root}
use Rattle.gl_plain.specs.Stands.{top, SpottedIn, AttrsStand, ModsStand, WhereValues, WhereBlock, Stands, StandIn, ItemsStand, BlockStands, ListStands, ElseStands, one_expr, modifier_pairs, attrs_by, mods_by, tail_of}
use Rattle.gl_plain.specs.Machine.{no_place, RootStands}
use Rattle.gl_plain.specs.Counts.{comment_node, nodes_of, nodes_items, nodes_in, attr_positions, mod_positions, positions_of, positions_items, positions_in, Runs, Taken, AllPass, is_due}
use Rattle.gl_plain.proofs.Moves.{IdCase, id_case, unhit}
use Rattle.gl_plain.proofs.Apart.{Into, Near, AnyStep, NoStep, Only, FromStep, StepsOf, into_more, near_more, far, child_into, child_near, later_apart, from_apart, root_above, source_means}
use Rattle.gl_plain.proofs.Renews.{handles_count}
use Rattle.gl_plain.proofs.Places.{EntriesIn, first_owned, listed_owned, entries_in, ScopeIn, ModifiersIn, scope_more, bind_in, with_in, pairs_same, all_in, given_in, attribute_pairs_in, modifiers_given, modifier_pairs_in}
use Rattle.gl_plain.proofs.Counts.{Steps, AllFrom, runs_join}
use Rattle.gl_plain.proofs.CountGrows.{CountedIn, CountedArm, arm_steps, entries_steps, item_steps, body_steps, yields_steps, components_steps}

-- no number passes the test
abbrev pub Fails : (ℕ → Bool) → List ℕ → Type 0
Fails test [] = Unit {0}
Fails test (x ∷ xs) = (test x ≡ false) × Fails test xs

pub fails_left : (test : ℕ → Bool) (xs ys : List ℕ) → Fails test (xs ++ ys) → Fails test xs
fails_left test [] ys h = tt
fails_left test (x ∷ xs) ys h = (h.0, fails_left test xs ys h.1)

pub fails_right : (test : ℕ → Bool) (xs ys : List ℕ) → Fails test (xs ++ ys) → Fails test ys
fails_right test [] ys h = h
fails_right test (x ∷ xs) ys h = fails_right test xs ys h.1

none_pass : (test : ℕ → Bool) (xs : List ℕ) → Fails test xs → filter test xs ≡ []
none_pass test [] h = refl
none_pass test (x ∷ xs) h = ap (λ b. cond b (x ∷ filter test xs) (filter test xs)) h.0 ∙ none_pass test xs h.1

pub runs_le : (n m : ℕ) (xs : List ℕ) → Runs n xs m → n ≤ m
runs_le n m [] h = omega (arith, h)
runs_le n m (x ∷ xs) h = let k = runs_le (suc n) m xs h.1 in omega (arith, k)

-- Taking

taken_all : (must : ℕ → Bool) (qs : List ℕ) → Taken must qs qs
taken_all must [] = tt
taken_all must (q ∷ qs) = inl (refl, taken_all must qs)

taken_skip : (must : ℕ → Bool) (q : ℕ) (qs rs : List ℕ) → must q ≡ false → Taken must qs rs → Taken must (q ∷ qs) rs
taken_skip must q qs [] e h = (e, h)
taken_skip must q qs (r ∷ rs) e h = inr (e, h)

taken_join : (must : ℕ → Bool) (qs rs qs' rs' : List ℕ) → Taken must qs rs → Taken must qs' rs' → Taken must (qs ++ qs') (rs ++ rs')
taken_join must [] [] qs' rs' h g = g
taken_join must [] (r ∷ rs) qs' rs' h g = absurd h
taken_join must (q ∷ qs) [] qs' rs' h g = taken_skip must q (qs ++ qs') rs' h.0 (taken_join must qs [] qs' rs' h.1 g)
taken_join must (q ∷ qs) (r ∷ rs) qs' rs' h g = by h (λ k. taken_join must qs rs qs' rs' k g) (λ k. taken_join must qs (r ∷ rs) qs' rs' k g) where
  by : ((q ≡ r) × Taken must qs rs) ⊎ ((must q ≡ false) × Taken must qs (r ∷ rs)) → (Taken must qs rs → Taken must (qs ++ qs') (rs ++ rs')) → (Taken must qs (r ∷ rs) → Taken must (qs ++ qs') (r ∷ (rs ++ rs')))
      → Taken must (q ∷ (qs ++ qs')) (r ∷ (rs ++ rs'))
  by (inl k) f g' = inl (k.0, f k.1)
  by (inr k) f g' = inr (k.0, g' k.1)

pass_join : (test : ℕ → Bool) (xs ys : List ℕ) → AllPass test xs → AllPass test ys → AllPass test (xs ++ ys)
pass_join test [] ys h g = g
pass_join test (x ∷ xs) ys h g = (h.0, pass_join test xs ys h.1 g)

-- Tests

right_true : (a b : Bool) → b ≡ true → (a || b) ≡ true
right_true true b e = refl
right_true false b e = e

neither : (a b : Bool) → a ≡ false → b ≡ false → (a || b) ≡ false
neither true b e f = e
neither false b e f = f

-- what holds of one of the sources holds of it where more passes
any_rises : (xs : List Source) (f g : Source → Bool) → ((x : Source) → f x ≡ true → g x ≡ true) → any_of xs f ≡ true → any_of xs g ≡ true
any_rises [] f g h e = e
any_rises (x ∷ xs) f g h e = by (f x) refl (any_rises xs f g h) e where
  by : (b : Bool) → f x ≡ b → (any_of xs f ≡ true → any_of xs g ≡ true) → (b || any_of xs f) ≡ true → (g x || any_of xs g) ≡ true
  by true i rec j = ap (λ c. c || any_of xs g) (h x i)
  by false i rec j = right_true (g x) (any_of xs g) (rec j)

-- where more sources pass, the test of the last evaluation passes still
abbrev pub Rising : Option Thing → Type 0
Rising t = (f g : Source → Bool) → ((x : Source) → f x ≡ true → g x ≡ true) → last_of t f ≡ true → last_of t g ≡ true

-- Sources

-- what a reference read last is at or above the place
abbrev pub Reads : Path → Option Thing → Type 0
Reads p t = (f g : Source → Bool) → ((x : Source) → Within (source_path x) p → f x ≡ g x) → last_of t f ≡ last_of t g

none_taken : (must may : ℕ → Bool) (rs : List ℕ) → Taken must [] rs → Taken may [] rs
none_taken must may [] h = tt
none_taken must may (r ∷ rs) h = absurd h

-- Over the state at the beginning, and what is touched at the end. What needs the premise G is proved where it is given.
module _ (st0 : State) (after : Source → Bool) (G : Type 0) where
  abbrev pub made : ℕ → Bool
  made n = nat_le (st0.next a_node) n

  abbrev must : ℕ → Bool
  must q = is_due st0 st0.touched q

  abbrev may : ℕ → Bool
  may q = is_due st0 after q

  -- a state in the turn
  pub record Later (st : State) : Type 0 where
    pub nodes : st0.next a_node ≤ st.next a_node
    pub refs : st0.next a_ref ≤ st.next a_ref
    pub warm : (x : Source) → st0.touched x ≡ true → st.touched x ≡ true

  -- references of an old part, which are as they were at the beginning
  pub record Own (st : State) (count : Id → ℕ) : Type 0 where
    pub once : (r : ℕ) → count (ref r) ≤ 1
    pub low : (r : ℕ) → 0 < count (ref r) → r < st0.next a_ref
    pub rows : (r : ℕ) → 0 < count (ref r) → st.look (ref r) ≡ st0.look (ref r)

  -- A step of an update, over a part that had these ids, and has these nodes and positions then: the new nodes are those that were
  -- made; each position that is due at the beginning was evaluated, and each that was evaluated is due at the end.
  pub record Turn (p : Path) (S : PathStep → Type 0) (st st' : State) (count : Id → ℕ) (ns qs : List ℕ) : Type 0 where
    pub nodes : Runs (st.next a_node) (filter made ns) (st'.next a_node)
    pub more : st.next a_ref ≤ st'.next a_ref
    pub rows : (r : ℕ) → r < st0.next a_ref → count (ref r) ≡ 0 → st'.look (ref r) ≡ st.look (ref r)
    pub still : (x : Source) → st.touched x ≡ true → st'.touched x ≡ true
    pub read : List ℕ
    pub positions : st'.evaluated ≡ st.evaluated ++ read
    pub taken : Taken must qs read
    pub allowed : ((x : Source) → st'.touched x ≡ true → after x ≡ true) → AllPass may read
    -- it touches only sources below p, and where nothing near is touched later it evaluates each position that is due at the end
    pub quiet : (x : Source) → (Into p S (source_path x) → ⊥) → st'.touched x ≡ st.touched x
    pub exact : G → ((x : Source) → Near p S (source_path x) → after x ≡ st'.touched x) → Taken may qs read

  abbrev pub TurnOf : Path → (PathStep → Type 0) → State → (Id → ℕ) → Live × State → Type 0
  TurnOf p S st count r = Turn p S st r.1 count (nodes_of r.0) (positions_of r.0)

  abbrev pub TurnIn : Path → (PathStep → Type 0) → State → (Id → ℕ) → Lives × State → Type 0
  TurnIn p S st count r = Turn p S st r.1 count (nodes_in r.0) (positions_in r.0)

  abbrev pub TurnItems : Path → (PathStep → Type 0) → State → (Id → ℕ) → Items × State → Type 0
  TurnItems p S st count r = Turn p S st r.1 count (nodes_items r.0) (positions_items r.0)

  abbrev pub TurnArm : Path → (PathStep → Type 0) → State → (Id → ℕ) → Arm → Type 0
  TurnArm p S st count a = Turn p S st a.state count (nodes_in a.lives ++ comment_node a.comment) (positions_in a.lives)

  -- nodes that are there and idle
  rest_turn : (p : Path) (S : PathStep → Type 0) (st : State) (ns : List ℕ) → Fails made ns → Turn p S st st (λ q. 0) ns []
  rest_turn p S st ns f = record {
    nodes = subst (λ xs. Runs (st.next a_node) xs (st.next a_node)) (sym (none_pass made ns f)) refl;
    more = omega arith;
    rows = λ r lt z. refl;
    still = λ x e. e;
    read = [];
    positions = sym (append-nil st.evaluated);
    taken = tt;
    allowed = λ f. tt;
    quiet = λ x n. refl;
    exact = λ c f. tt;
  }

  no_turn : (p : Path) (S : PathStep → Type 0) (st : State) → Turn p S st st (λ q. 0) [] []
  no_turn p S st = rest_turn p S st [] tt

  -- over a part that has more, at more steps
  turn_count : (p : Path) (S S' : PathStep → Type 0) (st st' : State) (a b : Id → ℕ) (ns qs : List ℕ) → ((l : PathStep) → S l → S' l) → ((r : ℕ) → b (ref r) ≡ 0 → a (ref r) ≡ 0) → Turn p S st st' a ns qs → Turn p S' st st' b ns qs
  turn_count p S S' st st' a b ns qs i e h = record {
    nodes = h.nodes;
    more = h.more;
    rows = λ r lt z. h.rows r lt (e r z);
    still = h.still;
    read = h.read;
    positions = h.positions;
    taken = h.taken;
    allowed = h.allowed;
    quiet = λ x n. h.quiet x (λ w. n (into_more p S S' i (source_path x) w));
    exact = λ c f. h.exact c (λ x w. f x (near_more p S S' i (source_path x) w));
  }

  -- a step over what stands at one step
  child_turn : (l : PathStep) (p : Path) (S : PathStep → Type 0) (st st' : State) (a : Id → ℕ) (ns qs : List ℕ) → Turn (l ∷ p) S st st' a ns qs → Turn p (Only l) st st' a ns qs
  child_turn l p S st st' a ns qs h = record {
    nodes = h.nodes;
    more = h.more;
    rows = h.rows;
    still = h.still;
    read = h.read;
    positions = h.positions;
    taken = h.taken;
    allowed = h.allowed;
    quiet = λ x n. h.quiet x (λ w. n (child_into l p S (source_path x) w));
    exact = λ c f. h.exact c (λ x w. f x (child_near l p S (source_path x) w));
  }

  -- one step after another, given what both evaluate
  join_turn : (p : Path) (S1 S2 S : PathStep → Type 0) (st st1 st2 : State) (a b : Id → ℕ) (ns ns' qs qs' : List ℕ) → ((l : PathStep) → S1 l → S l) → ((l : PathStep) → S2 l → S l)
      → (h : Turn p S1 st st1 a ns qs) → (g : Turn p S2 st1 st2 b ns' qs') → (G → ((x : Source) → Near p S (source_path x) → after x ≡ st2.touched x) → Taken may (qs ++ qs') (h.read ++ g.read))
      → Turn p S st st2 (λ q. a q + b q) (ns ++ ns') (qs ++ qs')
  join_turn p S1 S2 S st st1 st2 a b ns ns' qs qs' i1 i2 h g ex = record {
    nodes = subst (λ xs. Runs (st.next a_node) xs (st2.next a_node)) (sym (filter-append made ns ns')) (runs_join (st.next a_node) (st1.next a_node) (st2.next a_node) (filter made ns) (filter made ns') h.nodes g.nodes);
    more = let i = h.more in let k = g.more in omega (arith, i, k);
    rows = λ r lt z. g.rows r lt (omega (arith, z)) ∙ h.rows r lt (omega (arith, z));
    still = λ x e. g.still x (h.still x e);
    read = h.read ++ g.read;
    positions = g.positions ∙ (ap (λ xs. xs ++ g.read) h.positions ∙ append_assoc st.evaluated h.read g.read);
    taken = taken_join must qs h.read qs' g.read h.taken g.taken;
    allowed = λ f. pass_join may h.read g.read (h.allowed (λ x e. f x (g.still x e))) (g.allowed f);
    quiet = λ x n. g.quiet x (λ w. n (into_more p S2 S i2 (source_path x) w)) ∙ h.quiet x (λ w. n (into_more p S1 S i1 (source_path x) w));
    exact = ex;
  }

  then_turn : (p : Path) (S1 S2 S : PathStep → Type 0) (st st1 st2 : State) (a b : Id → ℕ) (ns ns' qs qs' : List ℕ) → ((l : PathStep) → S1 l → S l) → ((l : PathStep) → S2 l → S l) → ((l : PathStep) → S1 l → S2 l → ⊥)
      → Turn p S1 st st1 a ns qs → Turn p S2 st1 st2 b ns' qs' → Turn p S st st2 (λ q. a q + b q) (ns ++ ns') (qs ++ qs')
  then_turn p S1 S2 S st st1 st2 a b ns ns' qs qs' i1 i2 apart h g =
      join_turn p S1 S2 S st st1 st2 a b ns ns' qs qs' i1 i2 h g
      (λ c f. taken_join may qs h.read qs' g.read
      (h.exact c (λ x w. f x (near_more p S1 S i1 (source_path x) w) ∙ g.quiet x (far p S1 S2 apart (source_path x) w)))
      (g.exact c (λ x w. f x (near_more p S2 S i2 (source_path x) w))))

  -- the first has no position
  after_turn : (p : Path) (S : PathStep → Type 0) (st st1 st2 : State) (a b : Id → ℕ) (ns ns' qs' : List ℕ) → Turn p S st st1 a ns [] → Turn p S st1 st2 b ns' qs' → Turn p S st st2 (λ q. a q + b q) (ns ++ ns') qs'
  after_turn p S st st1 st2 a b ns ns' qs' h g =
      join_turn p S S S st st1 st2 a b ns ns' [] qs' (λ l w. w) (λ l w. w) h g (λ c f. taken_join may [] h.read qs' g.read (none_taken must may h.read h.taken) (g.exact c f))

  -- the second has no position, and nothing of its own
  then_nodes : (p : Path) (S : PathStep → Type 0) (st st1 st2 : State) (a : Id → ℕ) (ns ns' qs : List ℕ) → Turn p S st st1 a ns qs → Turn p NoStep st1 st2 (λ q. 0) ns' [] → Turn p S st st2 a (ns ++ ns') qs
  then_nodes p S st st1 st2 a ns ns' qs h g =
      subst (λ xs. Turn p S st st2 a (ns ++ ns') xs) (append-nil qs)
      (turn_count p S S st st2 (λ q. a q + 0) a (ns ++ ns') (qs ++ []) (λ l w. w) (λ r e. omega (arith, e)) (then_turn p S NoStep S st st1 st2 a (λ q. 0) ns ns' qs [] (λ l w. w) (λ l w. absurd w) (λ l u v. v) h g))

  -- the second has no node
  then_read : (p : Path) (S1 S2 S : PathStep → Type 0) (st st1 st2 : State) (a b : Id → ℕ) (ns qs qs' : List ℕ) → ((l : PathStep) → S1 l → S l) → ((l : PathStep) → S2 l → S l) → ((l : PathStep) → S1 l → S2 l → ⊥)
      → Turn p S1 st st1 a ns qs → Turn p S2 st1 st2 b [] qs' → Turn p S st st2 (λ q. a q + b q) ns (qs ++ qs')
  then_read p S1 S2 S st st1 st2 a b ns qs qs' i1 i2 apart h g = subst (λ xs. Turn p S st st2 (λ q. a q + b q) xs (qs ++ qs')) (append-nil ns) (then_turn p S1 S2 S st st1 st2 a b ns [] qs qs' i1 i2 apart h g)

  pub turn_later : (p : Path) (S : PathStep → Type 0) (st st' : State) (a : Id → ℕ) (ns qs : List ℕ) → Turn p S st st' a ns qs → Later st → Later st'
  turn_later p S st st' a ns qs h le = record {
    nodes = let k = runs_le (st.next a_node) (st'.next a_node) (filter made ns) h.nodes in let i = le.nodes in omega (arith, k, i);
    refs = let k = h.more in let i = le.refs in omega (arith, k, i);
    warm = λ x e. h.still x (le.warm x e);
  }

  -- a part of it
  pub own_part : (st : State) (count part : Id → ℕ) → ((r : ℕ) → part (ref r) ≤ count (ref r)) → Own st count → Own st part
  own_part st count part le o = record {
    once = λ r. let h = o.once r in let k = le r in omega (arith, h, k);
    low = λ r w. o.low r (let k = le r in omega (arith, w, k));
    rows = λ r w. o.rows r (let k = le r in omega (arith, w, k));
  }

  -- what stands beside a part, after this
  pub own_next : (p : Path) (S : PathStep → Type 0) (st st1 : State) (a b : Id → ℕ) (ns qs : List ℕ) → Own st (λ q. a q + b q) → Turn p S st st1 a ns qs → Own st1 b
  own_next p S st st1 a b ns qs o h = record {
    once = λ r. let i = o.once r in omega (arith, i);
    low = λ r w. o.low r (omega (arith, w));
    rows = λ r w. h.rows r (o.low r (omega (arith, w))) (let i = o.once r in omega (arith, i, w)) ∙ o.rows r (omega (arith, w));
  }

  all_pass : (n m : ℕ) (xs : List ℕ) → st0.next a_node ≤ n → Runs n xs m → filter made xs ≡ xs
  all_pass n m [] le h = refl
  all_pass n m (x ∷ xs) le h =
      let e : nat_le (st0.next a_node) x ≡ true = le-leb (st0.next a_node) x (let k = h.0 in omega (arith, k, le)) in
      ap (λ b. cond b (x ∷ filter made xs) (filter made xs)) e ∙ ap (λ ys. x ∷ ys) (all_pass (suc n) m xs (omega (arith, le)) h.1)

  new_pass : (n : ℕ) (rs : List ℕ) → st0.next a_ref ≤ n → AllFrom n rs → AllPass may rs
  new_pass n [] le h = tt
  new_pass n (r ∷ rs) le h =
      let e : nat_le (st0.next a_ref) r ≡ true = le-leb (st0.next a_ref) r (let k = h.0 in omega (arith, k, le)) in
      (ap (λ b. b || last_of (st0.look (ref r)) after) e, new_pass n rs le h.1)

  -- what is appended is new
  fresh_turn : (p : Path) (S : PathStep → Type 0) (st st' : State) (ns qs : List ℕ) → Later st → Steps st st' ns qs → Turn p S st st' (λ q. 0) ns qs
  fresh_turn p S st st' ns qs le h = record {
    nodes = subst (λ xs. Runs (st.next a_node) xs (st'.next a_node)) (sym (all_pass (st.next a_node) (st'.next a_node) ns le.nodes h.nodes)) h.nodes;
    more = h.leaves.more;
    rows = λ r lt z. h.leaves.rows r (let i = le.refs in omega (arith, i, lt));
    still = λ x e. h.leaves.touches x ∙ e;
    read = qs;
    positions = h.positions;
    taken = taken_all must qs;
    allowed = λ f. new_pass (st.next a_ref) qs le.refs h.late;
    quiet = λ x n. h.leaves.touches x;
    exact = λ c f. taken_all may qs;
  }

  drop_turn : (p : Path) (S : PathStep → Type 0) (count : Id → ℕ) (st : State) → Turn p S st (dropped count st) count [] []
  drop_turn p S count st = record {
    nodes = refl;
    more = omega arith;
    rows = λ r lt z. kept r z;
    still = λ x e. e;
    read = [];
    positions = sym (append-nil st.evaluated);
    taken = tt;
    allowed = λ f. tt;
    quiet = λ x n. refl;
    exact = λ c f. tt;
  } where
    kept : (r : ℕ) → count (ref r) ≡ 0 → (dropped count st).look (ref r) ≡ st.look (ref r)
    kept r z = ap (λ b. if b then st.look (ref r) else None) ((Decides-eqb (count (ref r)) 0).1 z)

  -- in place of what goes
  over_turn : (p : Path) (S : PathStep → Type 0) (count : Id → ℕ) (st st' : State) (ns qs : List ℕ) → Later st → Steps (dropped count st) st' ns qs → Turn p S st st' count ns qs
  over_turn p S count st st' ns qs le h =
      let d = drop_turn p S count st in
      turn_count p S S st st' (λ q. count q + 0) count ns qs (λ l w. w) (λ r e. omega (arith, e))
      (after_turn p S st (dropped count st) st' count (λ q. 0) [] ns qs d (fresh_turn p S (dropped count st) st' ns qs (turn_later p S st (dropped count st) count [] [] d le) h))

  -- Positions

  -- a position's reference is its own, and read some sources last
  abbrev Fit : Path → Spot → Type 0
  Fit p z = (0 < occurs (ref z.ref) z.made) × Rising (st0.look (ref z.ref)) × (G → Reads p (st0.look (ref z.ref)))

  one_turn : (p : Path) (z : Spot) (st x : State) (a : Option Thing) → Fit p z → Later st → Own st (λ q. occurs q z.made) → x.next a_node ≡ st.next a_node → x.next a_ref ≡ st.next a_ref
      → ((y : Source) → x.touched y ≡ st.touched y) → ((r : ℕ) → x.look (ref r) ≡ (if id_eq (ref r) (ref z.ref) then a else st.look (ref r))) → x.evaluated ≡ st.evaluated ++ z.ref ∷ []
      → (b : Bool) → is_stale st z.ref ≡ b → Turn p NoStep st (if b then x else st) (λ q. occurs q z.made) [] (z.ref ∷ [])
  one_turn p z st x a fit le o n k v l ev true s = record {
    nodes = n;
    more = omega (arith, k);
    rows = λ r lt e. l r ∙ ap (λ b. if b then a else st.look (ref r)) (other r e (id_case (ref r) (ref z.ref)));
    still = λ y e. v y ∙ e;
    read = z.ref ∷ [];
    positions = ev;
    taken = inl (refl, tt);
    allowed = λ f. (right_true (nat_le (st0.next a_ref) z.ref) _ (fit.1 st.touched after (λ y e. f y (v y ∙ e)) (ap (λ t. last_of t st.touched) (sym (o.rows z.ref fit.0)) ∙ s)), tt);
    quiet = λ y e. v y;
    exact = λ c f. inl (refl, tt);
  } where
    other : (r : ℕ) → occurs (ref r) z.made ≡ 0 → IdCase (ref r) (ref z.ref) → id_eq (ref r) (ref z.ref) ≡ false
    other r e (inl i) = let w : 0 < occurs (ref r) z.made = subst (λ q. 0 < occurs q z.made) (sym i.1) fit.0 in absurd (omega (arith, e, w))
    other r e (inr i) = i
  one_turn p z st x a fit le o n k v l ev false s = record {
    nodes = refl;
    more = omega arith;
    rows = λ r lt e. refl;
    still = λ y e. e;
    read = [];
    positions = sym (append-nil st.evaluated);
    taken = (neither _ _ (old (leb_tells (st0.next a_ref) z.ref)) (cold (last_of (st0.look (ref z.ref)) st0.touched) refl), tt);
    allowed = λ f. tt;
    quiet = λ y e. refl;
    exact = λ c f. (neither _ _ (old (leb_tells (st0.next a_ref) z.ref)) (fit.2 c after st.touched (λ y w. f y (inl w)) ∙ (ap (λ t. last_of t st.touched) (sym (o.rows z.ref fit.0)) ∙ s)), tt);
  } where
    old : ((nat_le (st0.next a_ref) z.ref ≡ true) × (st0.next a_ref ≤ z.ref)) ⊎ ((nat_le (st0.next a_ref) z.ref ≡ false) × (z.ref < st0.next a_ref)) → nat_le (st0.next a_ref) z.ref ≡ false
    old (inl h) = let i = h.1 in let j = o.low z.ref fit.0 in absurd (omega (arith, i, j))
    old (inr h) = h.0

    cold : (b : Bool) → last_of (st0.look (ref z.ref)) st0.touched ≡ b → last_of (st0.look (ref z.ref)) st0.touched ≡ false
    cold false e = e
    cold true e = absurd (true≢false (sym (ap (λ t. last_of t st.touched) (o.rows z.ref fit.0) ∙ fit.1 st0.touched st.touched le.warm e) ∙ s))

  pub reread_turn : (p : Path) (z : Spot) (st : State) → Fit p z → Later st → Own st (λ q. occurs q z.made) → Turn p NoStep st (reread z.ref st) (λ q. occurs q z.made) [] (z.ref ∷ [])
  reread_turn p z st fit le o = one_turn p z st (evaluate z.ref st) _ fit le o refl refl (λ y. refl) (λ r. refl) refl (is_stale st z.ref) refl

  -- what follows on a position
  spot_then : (p : Path) (z : Spot) (st st1 st2 : State) (ca cb : Id → ℕ) (ns qs : List ℕ) → Turn p NoStep st st1 ca [] (z.ref ∷ []) → Turn p AnyStep st1 st2 cb ns qs → Turn p AnyStep st st2 (λ q. ca q + cb q) ns (z.ref ∷ qs)
  spot_then p z st st1 st2 ca cb ns qs h g = then_turn p NoStep AnyStep AnyStep st st1 st2 ca cb [] ns (z.ref ∷ []) qs (λ j w. tt) (λ j w. tt) (λ j u w. u) h g

  -- Arms

  branch_turn : (p : Path) (u : Bool) (z : Spot) (st st1 : State) (ca cb : Id → ℕ) (f g : Arm) → Turn p NoStep st st1 ca [] (z.ref ∷ []) → TurnArm p AnyStep st1 cb f → TurnArm p AnyStep st1 cb g
      → TurnOf p AnyStep st (λ q. ca q + cb q) (cond {A = Live × State} u (branch_from z true f) (branch_from z false g))
  branch_turn p true z st st1 ca cb f g h hf hg = spot_then p z st st1 f.state ca cb (nodes_in f.lives ++ comment_node f.comment) (positions_in f.lives) h hf
  branch_turn p false z st st1 ca cb f g h hf hg = spot_then p z st st1 g.state ca cb (nodes_in g.lives ++ comment_node g.comment) (positions_in g.lives) h hg

  list_turn : (p : Path) (vs : Values Path) (z : Spot) (st st1 : State) (ca cb : Id → ℕ) (F : Values Path → Items × State) (g : Arm) → Turn p NoStep st st1 ca [] (z.ref ∷ [])
      → ((us : Values Path) → TurnItems p AnyStep st1 cb (F us)) → TurnArm p AnyStep st1 cb g → TurnOf p AnyStep st (λ q. ca q + cb q) (where_values vs (λ us. listed_from z (F us)) (unlisted_from z g))
  list_turn p no_values z st st1 ca cb F g h hf hg = spot_then p z st st1 g.state ca cb (nodes_in g.lives ++ comment_node g.comment) (positions_in g.lives) h hg
  list_turn p (value u us) z st st1 ca cb F g h hf hg = let r = F (value u us) in spot_then p z st st1 r.1 ca cb (nodes_items r.0) (positions_items r.0) h (hf (value u us))

  idle_turn : (p : Path) (S : PathStep → Type 0) (ls : Lives) (st : State) → ls ≡ Live.no_lives → TurnIn p S st (λ q. times_in q ls) (ls, st)
  idle_turn p S ls st e = subst (λ y. TurnIn p S st (λ q. times_in q y) (y, st)) (sym e) (no_turn p S st)

  block_turn : (p : Path) (S : PathStep → Type 0) (o : Option Block) (F : Block → Lives × State) (P : Block → Type 0) (ls : Lives) (st : State) → ((b : Block) → P b → TurnIn p S st (λ q. times_in q ls) (F b))
      → WhereBlock o P (ls ≡ Live.no_lives) → TurnIn p S st (λ q. times_in q ls) (where_block o F (ls, st))
  block_turn p S None F P ls st h g = idle_turn p S ls st g
  block_turn p S (Some b) F P ls st h g = h b g

  -- Items

  give_turn : (l : PathStep) (p : Path) (r : ℕ) (x : Source) (v : V) (st : State) → source_path x ≡ l ∷ p → Turn p (Only l) st (give r x v st) (λ q. hit q (ref r)) [] []
  give_turn l p r x v st at_item = by (same path_eq (held_value (st.look (ref r))) v) where
    other : (y : Source) → (Into p (Only l) (source_path y) → ⊥) → (b : Bool) → source_eq y x ≡ b → (b || st.touched y) ≡ st.touched y
    other y n false e = refl
    other y n true e = absurd (n (l, refl, subst (λ j. Within (l ∷ p) j) (sym (source_means y x e ∙ at_item)) (within_itself (l ∷ p))))

    by : (b : Bool) → Turn p (Only l) st (if b then st else touch r x v st) (λ q. hit q (ref r)) [] []
    by true = turn_count p NoStep (Only l) st st (λ q. 0) (λ q. hit q (ref r)) [] [] (λ k w. absurd w) (λ i e. refl) (no_turn p NoStep st)
    by false = record {
      nodes = refl;
      more = omega arith;
      rows = λ i lt e. ap (λ b. if b then Some (row (record { form = source_form x v; last = any_of [] })) else st.look (ref i)) (unhit (ref i) (ref r) e);
      still = λ y e. right_true _ (st.touched y) e;
      read = [];
      positions = sym (append-nil st.evaluated);
      taken = tt;
      allowed = λ f. tt;
      quiet = λ y n. other y n (source_eq y x) refl;
      exact = λ c f. tt;
    }

  module _ (app : App) (σ τ : Store) (cells : G → (P : Path → Type 0) (i : Path) (x : Text) → Owners P (cell_value app σ i x)) where
    -- what is in scope stands at or above the place
    abbrev Seen : Path → Scope → Type 0
    Seen p v = G → ScopeIn (AtOrAbove p) v

    below_seen : (l : PathStep) (p : Path) (v : Scope) → Seen p v → Seen (l ∷ p) v
    below_seen l p v s c = scope_more (AtOrAbove p) (AtOrAbove (l ∷ p)) (λ j w. inr w) v (s c)

    named_seen : (p : Path) (v : Scope) (ns : List Text) (ps : List Pair) → Seen p v → (G → PairsIn (AtOrAbove p) ps) → Seen p (with_locals (bind ns ps) v)
    named_seen p v ns ps s h c = with_in (AtOrAbove p) v (bind ns ps) (s c) (bind_in (AtOrAbove p) ns ps (h c))

    writer_seen : (p : Path) (v : Scope) → Seen p v → Seen p (writer (passed_of v))
    writer_seen p (scope i a l nothing_passed) s c = (root_above p, tt, tt, tt)
    writer_seen p (scope i a l (passed ps bs w)) s c = (s c).3

    exprs_seen : (p : Path) (v : Scope) (es : t.Exprs) → Seen p v → G → PairsIn (AtOrAbove p) (eval_all app σ v es)
    exprs_seen p v es s c = all_in (AtOrAbove p) app σ (cells c (AtOrAbove p)) v (s c) es

    -- what stood at the beginning
    pub spot_fits : (p : Path) (ms : MScope) (more : List Id) (z : Spot) (E : Store → (ℕ → Pair) → List Pair) (ps : List Pair) → (G → PairsIn (AtOrAbove p) ps) → SpottedIn app st0.look ms more z E ps → Fit p z
    spot_fits p ms more z E ps w h =
        (h.own, subst Rising (sym h.is.0) (any_rises (sources_of ps)), (λ c. subst (Reads p) (sym h.is.0) (λ f g e. pairs_same (AtOrAbove p) ps (w c) f g e)))

    pub attrs_turn : (p : Path) (made' : List Id) (s : Scope) (ms : MScope) (ws : Scope → List (WrittenValue Scope)) (ns : List Text) (n : ℕ) (xs : List AttrSpot) (st : State)
        → ((k : Text) → G → PairsIn (AtOrAbove p) (taken_pairs app σ (ws s) k)) → AttrsStand app σ τ st0.look made' s ms ws ns xs → Later st → Own st (λ q. times_attrs q xs)
        → Turn p NoStep st (renew_attrs n xs st) (λ q. times_attrs q xs) [] (attr_positions xs)
    attrs_turn p made' s ms ws [] n [] st w h le o = no_turn p NoStep st
    attrs_turn p made' s ms ws (k ∷ ns) n (a ∷ xs) st w h le o =
        let ca : Id → ℕ = λ q. occurs q a.spot.made in
        let cb : Id → ℕ = λ q. times_attrs q xs in
        let x = put_thing (node n) (content (changed_attr a.name (attribute_value (spot_pairs st a.spot.ref)) (st.look (node n)))) (evaluate a.spot.ref st) in
        let st1 : State = if is_stale st a.spot.ref then x else st in
        let one = one_turn p a.spot st x _ (spot_fits p ms made' a.spot _ _ (w k) h.1) le (own_part st (λ q. ca q + cb q) ca (λ r. omega arith) o) refl refl (λ y. refl) (λ r. refl) refl (is_stale st a.spot.ref) refl in
        then_turn p NoStep NoStep NoStep st st1 (renew_attrs n xs st1) ca cb [] [] (a.spot.ref ∷ []) (attr_positions xs) (λ l u. u) (λ l u. u) (λ l u v. u) one
        (attrs_turn p made' s ms ws ns n xs st1 w h.2 (turn_later p NoStep st st1 ca [] (a.spot.ref ∷ []) one le) (own_next p NoStep st st1 ca cb [] (a.spot.ref ∷ []) o one))
    attrs_turn p made' s ms ws _ n _ st w h le o = absurd h

    pub mods_turn : (p : Path) (made' : List Id) (n : ℕ) (s : Scope) (ms : MScope) (ws : Scope → List (WrittenModifier Scope)) (i : ℕ) (ds : List (WrittenModifier Scope)) (zs : List ModSpot) (st : State)
        → (G → ModifiersIn (AtOrAbove p) ds) → ModsStand app σ τ st0.look made' n s ms ws i ds zs → Later st → Own st (λ q. times_mods q zs)
        → Turn p NoStep st (renew_mods zs st) (λ q. times_mods q zs) [] (mod_positions zs)
    mods_turn p made' n s ms ws i [] [] st w h le o = no_turn p NoStep st
    mods_turn p made' n s ms ws i (d ∷ ds) (z ∷ zs) st w h le o =
        let ca : Id → ℕ = λ q. occurs q z.spot.made in
        let cb : Id → ℕ = λ q. times_mods q zs in
        let x = note_updated z.id (put_thing (modifier_id z.id) (modifier_row (refreshed z (values_in (spot_pairs st z.spot.ref)) (st.look (modifier_id z.id)))) (evaluate z.spot.ref st)) in
        let st1 : State = if is_stale st z.spot.ref then x else st in
        let o' = own_part st (λ q. times_mods q (z ∷ zs)) (λ q. ca q + cb q) (λ r. omega arith) o in
        let given : G → PairsIn (AtOrAbove p) (modifier_pairs app σ d) = (λ c. modifier_pairs_in (AtOrAbove p) app σ (cells c (AtOrAbove p)) d (w c).0) in
        let one = one_turn p z.spot st x _ (spot_fits p ms made' z.spot _ _ given h.3) le (own_part st (λ q. ca q + cb q) ca (λ r. omega arith) o') refl refl (λ y. refl) (λ r. refl) refl (is_stale st z.spot.ref) refl in
        turn_count p NoStep NoStep st (renew_mods zs st1) (λ q. ca q + cb q) (λ q. times_mods q (z ∷ zs)) [] (mod_positions (z ∷ zs)) (λ l u. u) (λ r e. omega (arith, e))
        (then_turn p NoStep NoStep NoStep st st1 (renew_mods zs st1) ca cb [] [] (z.spot.ref ∷ []) (mod_positions zs) (λ l u. u) (λ l u. u) (λ l u v. u) one
        (mods_turn p made' n s ms (λ s'. tail_of (ws s')) (suc i) ds zs st1 (λ c. (w c).1) h.4 (turn_later p NoStep st st1 ca [] (z.spot.ref ∷ []) one le) (own_next p NoStep st st1 ca cb [] (z.spot.ref ∷ []) o' one)))
    mods_turn p made' n s ms ws i _ _ st w h le o = absurd h

    -- Items

    module _ (ns : List Text) (ms : MScope) (p : Path) where
      abbrev pub HandleTurns : Handle → Type 0
      HandleTurns h =
          ((q : Path) (st : State) → q ≡ item h.spot.key h.spot.occurrence ∷ p → Later st → Own st (λ i. times_in i h.lives) → TurnIn q (FromStep 0) st (λ i. times_in i h.lives) (h.go (with_names (item_names ns h.spot) ms) q st))
          × Fails made (comment_node h.comment)

      abbrev pub AllTurn : List Handle → Type 0
      AllTurn [] = Unit {0}
      AllTurn (h ∷ hs) = HandleTurns h × AllTurn hs

      abbrev pub TakenTurns : Entry → List Handle → Option (Handle × List Handle) → Type 0
      TakenTurns x hs None = Unit {0}
      TakenTurns x hs (Some k) = ((q : Id) → times_handles q hs ≡ times_handle q k.0 + times_handles q k.1) × (is_of x k.0 ≡ true) × HandleTurns k.0 × AllTurn k.1

      front_turns : (x : Entry) (h : Handle) (hs : List Handle) (o : Option (Handle × List Handle)) → HandleTurns h → TakenTurns x hs o → TakenTurns x (h ∷ hs) (with_front h o)
      front_turns x h hs None k g = tt
      front_turns x h hs (Some y) k g = ((λ q. let e = g.0 q in omega (arith, e)), g.1, g.2, (k, g.3))

      pub taken_turns : (x : Entry) (hs : List Handle) → AllTurn hs → TakenTurns x hs (taken x hs)
      taken_turns x [] g = tt
      taken_turns x (h ∷ hs) g = by (is_of x h) refl (front_turns x h hs (taken x hs) g.0 (taken_turns x hs g.1)) where
        by : (b : Bool) → is_of x h ≡ b → TakenTurns x (h ∷ hs) (with_front h (taken x hs)) → TakenTurns x (h ∷ hs) (if b then Some (h, hs) else with_front h (taken x hs))
        by true e k = ((λ q. refl), e, g.0, g.1)
        by false e k = k

      pub item_turn : (x : Entry) (h : Handle) (st : State) → is_of x h ≡ true → Later st → Own st (λ i. times_handle i h) → HandleTurns h
          → TurnArm p (Only (item x.key x.occurrence)) st (λ i. times_handle i h) (renew_item ns ms (item x.key x.occurrence ∷ p) x h st).arm
      item_turn x h st e le o k =
          let l = item x.key x.occurrence in
          let q = l ∷ p in
          let st1 = give h.spot.value (item_value q) x.value st in
          let st2 = give h.spot.index (item_index q) (count_value x.index) st1 in
          let cv : Id → ℕ = λ i. hit i (ref h.spot.value) in
          let ci : Id → ℕ = λ i. hit i (ref h.spot.index) in
          let cg : Id → ℕ = λ i. cv i + ci i in
          let cl : Id → ℕ = λ i. times_in i h.lives in
          let m = after_turn p (Only l) st st1 st2 cv ci [] [] [] (give_turn l p h.spot.value (item_value q) x.value st refl) (give_turn l p h.spot.index (item_index q) (count_value x.index) st1 refl) in
          let o2 = own_next p (Only l) st st2 cg cl [] [] (own_part st (λ i. times_handle i h) (λ i. cg i + cl i) (λ r. omega arith) o) m in
          let r = h.go (with_names (item_names ns h.spot) ms) q st2 in
          let same_key = same_means ⊥ no_owners no_owners-Decides x.key h.spot.key (both_left _ _ e) in
          let same_place = (Decides-eqb x.occurrence h.spot.occurrence).0 (both_right (same no_owners x.key h.spot.key) _ e) in
          let go = k.0 q st2 (ap₂ (λ a n. item a n ∷ p) same_key same_place) (turn_later p (Only l) st st2 cg [] [] m le) o2 in
          turn_count p (Only l) (Only l) st r.1 (λ i. cg i + cl i) (λ i. times_handle i h) (nodes_in r.0 ++ comment_node h.comment) (positions_in r.0) (λ j w. w) (λ i z. omega (arith, z))
          (after_turn p (Only l) st st2 r.1 cg cl [] (nodes_in r.0 ++ comment_node h.comment) (positions_in r.0) m
          (then_nodes p (Only l) st2 r.1 r.1 cl (nodes_in r.0) (comment_node h.comment) (positions_in r.0) (child_turn l p (FromStep 0) st2 r.1 cl (nodes_in r.0) (positions_in r.0) go) (rest_turn p NoStep r.1 (comment_node h.comment) k.1)))

      abbrev pub OneTurns : (Path → Entry → State → ItemGrown) → Type 0
      OneTurns one = (q : Path) (x : Entry) (st : State) → CountedArm st (one q x st).arm

      pub sync_turn : (one : Path → Entry → State → ItemGrown) → OneTurns one → (xs : List Entry) (olds : List Handle) (st : State) → Distinct xs
          → Later st → Own st (λ q. times_handles q olds) → AllTurn olds → TurnItems p (StepsOf xs) st (λ q. times_handles q olds) (sync one ns ms p xs olds st)
      sync_turn one h [] olds st d le o a = drop_turn p (StepsOf []) (λ q. times_handles q olds) st
      sync_turn one h (x ∷ xs) olds st d le o a = by (taken x olds) (taken_turns x olds a) (λ olds' st'. sync_turn one h xs olds' st' d.1) where
        by : (k : Option (Handle × List Handle)) → TakenTurns x olds k
            → ((olds : List Handle) (st : State) → Later st → Own st (λ q. times_handles q olds) → AllTurn olds → TurnItems p (StepsOf xs) st (λ q. times_handles q olds) (sync one ns ms p xs olds st))
            → let g = sync_one one ns ms (item x.key x.occurrence ∷ p) x olds k st in let r = sync one ns ms p xs g.1 g.0.arm.state in
            TurnItems p (StepsOf (x ∷ xs)) st (λ q. times_handles q olds) (Live.item_live g.0.spot g.0.arm.comment g.0.arm.lives r.0, r.1)
        by None k rec =
            let l = item x.key x.occurrence in
            let arm = (one (l ∷ p) x st).arm in
            let c0 : Id → ℕ = λ q. 0 in
            let cr : Id → ℕ = λ q. times_handles q olds in
            let ns1 = nodes_in arm.lives ++ comment_node arm.comment in
            let f = fresh_turn p (Only l) st arm.state ns1 (positions_in arm.lives) le (h (l ∷ p) x st) in
            let o1 = own_next p (Only l) st arm.state c0 cr ns1 (positions_in arm.lives) (own_part st cr (λ q. c0 q + cr q) (λ r. omega arith) o) f in
            let r = sync one ns ms p xs olds arm.state in
            turn_count p (StepsOf (x ∷ xs)) (StepsOf (x ∷ xs)) st r.1 (λ q. c0 q + cr q) cr (ns1 ++ nodes_items r.0) (positions_in arm.lives ++ positions_items r.0) (λ j w. w) (λ i z. omega (arith, z))
            (then_turn p (Only l) (StepsOf xs) (StepsOf (x ∷ xs)) st arm.state r.1 c0 cr ns1 (nodes_items r.0) (positions_in arm.lives) (positions_items r.0)
            (λ j w. inl w) (λ j w. inr w) (λ j u v. later_apart x.key x.occurrence xs d.0 j u v) f (rec olds arm.state (turn_later p (Only l) st arm.state c0 ns1 (positions_in arm.lives) f le) o1 a))
        by (Some y) k rec =
            let l = item x.key x.occurrence in
            let arm = (renew_item ns ms (l ∷ p) x y.0 st).arm in
            let ca : Id → ℕ = λ q. times_handle q y.0 in
            let cr : Id → ℕ = λ q. times_handles q y.1 in
            let ns1 = nodes_in arm.lives ++ comment_node arm.comment in
            let o' = own_part st (λ q. times_handles q olds) (λ q. ca q + cr q) (λ r. let e = k.0 (ref r) in omega (arith, e)) o in
            let f = item_turn x y.0 st k.1 le (own_part st (λ q. ca q + cr q) ca (λ r. omega arith) o') k.2 in
            let o1 = own_next p (Only l) st arm.state ca cr ns1 (positions_in arm.lives) o' f in
            let r = sync one ns ms p xs y.1 arm.state in
            turn_count p (StepsOf (x ∷ xs)) (StepsOf (x ∷ xs)) st r.1 (λ q. ca q + cr q) (λ q. times_handles q olds) (ns1 ++ nodes_items r.0) (positions_in arm.lives ++ positions_items r.0) (λ j w. w) (λ i z. let e = k.0 (ref i) in omega (arith, z, e))
            (then_turn p (Only l) (StepsOf xs) (StepsOf (x ∷ xs)) st arm.state r.1 ca cr ns1 (nodes_items r.0) (positions_in arm.lives) (positions_items r.0)
            (λ j w. inl w) (λ j w. inr w) (λ j u v. later_apart x.key x.occurrence xs d.0 j u v) f (rec y.1 arm.state (turn_later p (Only l) st arm.state ca ns1 (positions_in arm.lives) f le) o1 k.3))

    pub fresh_steps : (m : ℕ) (ms : MScope) (p : Path) (b : t.Body) (st : State) → CountedIn st (fresh_body app τ m ms p b st)
    fresh_steps m ms p b st =
        let d = grow_components m app τ in body_steps app d (grow_yields app d (passed_in ms)) (components_steps m app τ) (yields_steps app d (components_steps m app τ) (passed_in ms)) b ms p 0 st

    -- in place of what goes
    flipped_turn : (p : Path) (m : ℕ) (ms : MScope) (q : Path) (b : t.Body) (count : Id → ℕ) (st : State) → Later st → TurnArm p AnyStep st count (or_comment (fresh_body app τ m ms q b (dropped count st)))
    flipped_turn p m ms q b count st le =
        let st1 = dropped count st in
        let a = or_comment (fresh_body app τ m ms q b st1) in
        over_turn p AnyStep count st a.state (nodes_in a.lives ++ comment_node a.comment) (positions_in a.lives) le (arm_steps st1 (fresh_body app τ m ms q b st1) (fresh_steps m ms q b st1))

    pub fresh_items_steps : (m : ℕ) (ms : MScope) (ns : List Text) (b : t.Body) (q : Path) (x : Entry) (st : State) → CountedArm st (fresh_items app τ m ms ns b q x st).arm
    fresh_items_steps m ms ns b q x st = item_steps (λ ms' q' st'. fresh_body app τ m ms' q' b st') (λ ms' q' st'. fresh_steps m ms' q' b st') ms ns q x st

    fresh_list_turn : (p : Path) (m : ℕ) (ms : MScope) (ns : List Text) (q : Path) (b : t.Body) (xs : List Entry) (count : Id → ℕ) (st : State) → Later st
        → TurnItems p AnyStep st count (grow_entries (fresh_items app τ m ms ns b) q xs (dropped count st))
    fresh_list_turn p m ms ns q b xs count st le =
        let r = grow_entries (fresh_items app τ m ms ns b) q xs (dropped count st) in
        over_turn p AnyStep count st r.1 (nodes_items r.0) (positions_items r.0) le (entries_steps (fresh_items app τ m ms ns b) (fresh_items_steps m ms ns b) q xs (dropped count st))

    -- the body at one step, as a part of what stands here
    inner_turn : (l : PathStep) (p : Path) (S : PathStep → Type 0) (st st' : State) (a b : Id → ℕ) (ns qs : List ℕ) → ((r : ℕ) → b (ref r) ≡ 0 → a (ref r) ≡ 0) → Turn (l ∷ p) S st st' a ns qs → Turn p AnyStep st st' b ns qs
    inner_turn l p S st st' a b ns qs e h = turn_count p (Only l) AnyStep st st' a b ns qs (λ j w. tt) e (child_turn l p S st st' a ns qs h)

    -- a body that goes on
    kept_turn : (l : PathStep) (p : Path) (k : Option ℕ) (ls : Lives) (st : State) (r : Lives × State) → Fails made (comment_node k) → TurnIn (l ∷ p) (FromStep 0) st (λ q. times_in q ls) r
        → TurnArm p AnyStep st (λ q. times_in q ls + times_comment q k) (record { comment = k; lives = r.0; state = r.1 })
    kept_turn l p k ls st r f h =
        then_nodes p AnyStep st r.1 r.1 (λ q. times_in q ls + times_comment q k) (nodes_in r.0) (comment_node k) (positions_in r.0)
        (inner_turn l p (FromStep 0) st r.1 (λ q. times_in q ls) (λ q. times_in q ls + times_comment q k) (nodes_in r.0) (positions_in r.0) (λ i z. omega (arith, z)) h) (rest_turn p NoStep r.1 (comment_node k) f)

    pub list_fits : (Q : Path → Type 0) (us : Values Path) (P : Values Path → Type 0) (R : Type 0) → (G → OwnersAll Q us) → ((us : Values Path) → (G → OwnersAll Q us) → P us → R) → WhereValues us P ⊥ → R
    list_fits Q no_values P R w f h = absurd h
    list_fits Q (value v us) P R w f h = f (value v us) w h

    pub else_fits : (us : Values Path) (P Q : Type 0) → (P → Q) → WhereValues us (λ z. ⊥) P → Q
    else_fits no_values P Q f h = f h
    else_fits (value v us) P Q f h = absurd h

    mutual
      pub renew_turn : (m b : ℕ) (v : Scope) (ms : MScope) (p : Path) (x : t.Stmt) (l : Live) (st : State) → Stands app σ τ st0.look m b v ms p x l → Seen p v → Fails made (nodes_of l) → Later st → Own st (λ q. times q l)
          → TurnOf p AnyStep st (λ q. times q l) (renew app τ m ms p x l st)
      renew_turn m b v ms p (t.text_stmt z) (Live.still n) st h s f le o = turn_count p AnyStep AnyStep st st (λ q. 0) (λ q. hit q (node n)) (n ∷ []) [] (λ j w. w) (λ r e. refl) (rest_turn p AnyStep st (n ∷ []) f)
      renew_turn m b v ms p (t.comment_stmt z) (Live.still n) st h s f le o = turn_count p AnyStep AnyStep st st (λ q. 0) (λ q. hit q (node n)) (n ∷ []) [] (λ j w. w) (λ r e. refl) (rest_turn p AnyStep st (n ∷ []) f)
      renew_turn m b v ms p (t.put e) (Live.put_live n z) st h s f le o =
          let c0 : Id → ℕ = λ q. 0 in
          let cz : Id → ℕ = λ q. occurs q z.made in
          let x = put_thing (node n) (content (text_content (text_of (first_value (spot_pairs st z.ref))))) (evaluate z.ref st) in
          let st1 : State = if is_stale st z.ref then x else st in
          let oz = own_part st (λ q. times q (Live.put_live n z)) cz (λ r. omega arith) o in
          turn_count p NoStep AnyStep st st1 (λ q. c0 q + cz q) (λ q. times q (Live.put_live n z)) (n ∷ []) (z.ref ∷ []) (λ j w. tt) (λ r e. omega (arith, e))
          (after_turn p NoStep st st st1 c0 cz (n ∷ []) [] (z.ref ∷ []) (rest_turn p NoStep st (n ∷ []) f)
          (one_turn p z st x _ (spot_fits p ms [] z _ _ (exprs_seen p v (one_expr e) s) h.1) le oz refl refl (λ y. refl) (λ r. refl) refl (is_stale st z.ref) refl))
      renew_turn m b v ms p (t.element tag ps c) (Live.element_live n made' xs zs ls) st h s f le o =
          let c0 : Id → ℕ = λ q. 0 in
          let ca : Id → ℕ = λ q. times_attrs q xs in
          let cl : Id → ℕ = λ q. times_in q ls in
          let cm : Id → ℕ = λ q. times_mods q zs in
          let cr : Id → ℕ = λ q. cl q + cm q in
          let o1 = own_part st (λ q. times q (Live.element_live n made' xs zs ls)) (λ q. ca q + cr q) (λ r. omega arith) o in
          let st1 = renew_attrs n xs st in
          let ha = attrs_turn p made' v ms (attrs_by ps) _ n xs st (λ k g. attribute_pairs_in (AtOrAbove p) app σ (cells g (AtOrAbove p)) v ps k (s g)) h.1 le (own_part st (λ q. ca q + cr q) ca (λ r. omega arith) o1) in
          let le1 = turn_later p NoStep st st1 ca [] (attr_positions xs) ha le in
          let o2 = own_next p NoStep st st1 ca cr [] (attr_positions xs) o1 ha in
          let r = renew_body app τ m ms p 0 c ls st1 in
          let hb = body_turn m b v ms p 0 c ls st1 h.3 s f.1 le1 (own_part st1 cr cl (λ r. omega arith) o2) in
          let st2 = renew_mods zs r.1 in
          let hm = mods_turn p made' n v ms (mods_by ps) 0 _ zs r.1 (λ g. modifiers_given (AtOrAbove p) app σ (cells g (AtOrAbove p)) v ps (s g)) h.2
          (turn_later p (FromStep 0) st1 r.1 cl (nodes_in r.0) (positions_in r.0) hb le1) (own_next p (FromStep 0) st1 r.1 cl cm (nodes_in r.0) (positions_in r.0) o2 hb) in
          turn_count p AnyStep AnyStep st st2 (λ q. c0 q + (ca q + cr q)) (λ q. times q (Live.element_live n made' xs zs ls)) (n ∷ nodes_in r.0) (attr_positions xs ++ (positions_in r.0 ++ mod_positions zs)) (λ j w. w) (λ i e. omega (arith, e))
          (after_turn p AnyStep st st st2 c0 (λ q. ca q + cr q) (n ∷ []) (nodes_in r.0) (attr_positions xs ++ (positions_in r.0 ++ mod_positions zs)) (rest_turn p AnyStep st (n ∷ []) (f.0, tt))
          (then_turn p NoStep AnyStep AnyStep st st1 st2 ca cr [] (nodes_in r.0) (attr_positions xs) (positions_in r.0 ++ mod_positions zs) (λ j w. tt) (λ j w. tt) (λ j u w. u) ha
          (then_read p (FromStep 0) NoStep AnyStep st1 r.1 st2 cl cm (nodes_in r.0) (positions_in r.0) (mod_positions zs) (λ j w. tt) (λ j w. tt) (λ j u w. w) hb hm)))
      renew_turn m b v ms p (t.if_stmt e unless c d) (Live.branch_live z true k ls) st h s f le o =
          let cz : Id → ℕ = λ q. occurs q z.made in
          let ca : Id → ℕ = λ q. times_in q ls + times_comment q k in
          let st1 = reread z.ref st in
          let hz = reread_turn p z st (spot_fits p ms [] z _ _ (exprs_seen p v (one_expr e) s) h.0) le (own_part st (λ q. cz q + ca q) cz (λ r. omega arith) o) in
          let le1 = turn_later p NoStep st st1 cz [] (z.ref ∷ []) hz le in
          let o1 = own_part st1 ca (λ q. times_in q ls) (λ r. omega arith) (own_next p NoStep st st1 cz ca [] (z.ref ∷ []) o hz) in
          let r = renew_body app τ m ms (main ∷ p) 0 c ls st1 in
          branch_turn p (takes_first unless (first_value (spot_pairs st1 z.ref))) z st st1 cz ca (record { comment = k; lives = r.0; state = r.1 }) (or_comment (fresh_body app τ m ms (otherwise ∷ p) d (dropped ca st1))) hz
          (kept_turn main p k ls st1 r (fails_right made (nodes_in ls) (comment_node k) f) (body_turn m b v ms (main ∷ p) 0 c ls st1 h.3 (below_seen main p v s) (fails_left made (nodes_in ls) (comment_node k) f) le1 o1))
          (flipped_turn p m ms (otherwise ∷ p) d ca st1 le1)
      renew_turn m b v ms p (t.if_stmt e unless c d) (Live.branch_live z false k ls) st h s f le o =
          let cz : Id → ℕ = λ q. occurs q z.made in
          let ca : Id → ℕ = λ q. times_in q ls + times_comment q k in
          let st1 = reread z.ref st in
          let hz = reread_turn p z st (spot_fits p ms [] z _ _ (exprs_seen p v (one_expr e) s) h.0) le (own_part st (λ q. cz q + ca q) cz (λ r. omega arith) o) in
          let le1 = turn_later p NoStep st st1 cz [] (z.ref ∷ []) hz le in
          let o1 = own_part st1 ca (λ q. times_in q ls) (λ r. omega arith) (own_next p NoStep st st1 cz ca [] (z.ref ∷ []) o hz) in
          let r = renew_body app τ m ms (otherwise ∷ p) 0 d ls st1 in
          branch_turn p (takes_first unless (first_value (spot_pairs st1 z.ref))) z st st1 cz ca (or_comment (fresh_body app τ m ms (main ∷ p) c (dropped ca st1))) (record { comment = k; lives = r.0; state = r.1 }) hz
          (flipped_turn p m ms (main ∷ p) c ca st1 le1)
          (kept_turn otherwise p k ls st1 r (fails_right made (nodes_in ls) (comment_node k) f) (body_turn m b v ms (otherwise ∷ p) 0 d ls st1 h.3 (below_seen otherwise p v s) (fails_left made (nodes_in ls) (comment_node k) f) le1 o1))
      renew_turn m b v ms p (t.each e key ns c d) (Live.listed z is) st h s f le o =
          let cz : Id → ℕ = λ q. occurs q z.made in
          let ca : Id → ℕ = λ q. times_items q is in
          let hs = handles app τ m c is in
          let st1 = reread z.ref st in
          let seen = exprs_seen p v (one_expr e) s in
          let hz = reread_turn p z st (spot_fits p ms [] z _ _ seen h.0) le (own_part st (λ q. cz q + ca q) cz (λ r. omega arith) o) in
          let le1 = turn_later p NoStep st st1 cz [] (z.ref ∷ []) hz le in
          let o1 = own_next p NoStep st st1 cz ca [] (z.ref ∷ []) o hz in
          let all = list_fits (AtOrAbove p) _ (ListStands app σ τ st0.look m b v ms p key ns c is) (AllTurn ns ms (items ∷ p) hs)
          (λ g. listed_owned (AtOrAbove p) (first_value (eval_all app σ v (one_expr e))) (first_owned (AtOrAbove p) (eval_all app σ v (one_expr e)) (seen g)))
          (λ us w g. handles_turn m b v ms p ns c (entries key 0 [] us) is g s (λ y. entries_in (AtOrAbove p) key 0 [] us (w y)) f) h.1 in
          list_turn p (values_listed (first_value (spot_pairs st1 z.ref))) z st st1 cz ca
          (λ vs. sync (fresh_items app τ m ms ns c) ns ms (items ∷ p) (entries key 0 [] vs) hs st1)
          (or_comment (fresh_body app τ m ms (otherwise ∷ p) d (dropped ca st1))) hz
          (λ vs. let r = sync (fresh_items app τ m ms ns c) ns ms (items ∷ p) (entries key 0 [] vs) hs st1 in
          inner_turn items p (StepsOf (entries key 0 [] vs)) st1 r.1 (λ q. times_handles q hs) ca (nodes_items r.0) (positions_items r.0) (λ i w. let j = handles_count app σ τ m c is (ref i) in omega (arith, j, w))
          (sync_turn ns ms (items ∷ p) (fresh_items app τ m ms ns c) (fresh_items_steps m ms ns c) (entries key 0 [] vs) hs st1 (distinct key 0 [] vs) le1
          (own_part st1 ca (λ q. times_handles q hs) (λ i. let j = handles_count app σ τ m c is (ref i) in omega (arith, j)) o1) all))
          (flipped_turn p m ms (otherwise ∷ p) d ca st1 le1)
      renew_turn m b v ms p (t.each e key ns c d) (Live.unlisted z k ls) st h s f le o =
          let cz : Id → ℕ = λ q. occurs q z.made in
          let ca : Id → ℕ = λ q. times_in q ls + times_comment q k in
          let st1 = reread z.ref st in
          let hz = reread_turn p z st (spot_fits p ms [] z _ _ (exprs_seen p v (one_expr e) s) h.0) le (own_part st (λ q. cz q + ca q) cz (λ r. omega arith) o) in
          let le1 = turn_later p NoStep st st1 cz [] (z.ref ∷ []) hz le in
          let o1 = own_part st1 ca (λ q. times_in q ls) (λ r. omega arith) (own_next p NoStep st st1 cz ca [] (z.ref ∷ []) o hz) in
          let r = renew_body app τ m ms (otherwise ∷ p) 0 d ls st1 in
          list_turn p (values_listed (first_value (spot_pairs st1 z.ref))) z st st1 cz ca
          (λ vs. grow_entries (fresh_items app τ m ms ns c) (items ∷ p) (entries key 0 [] vs) (dropped ca st1)) (record { comment = k; lives = r.0; state = r.1 }) hz
          (λ vs. fresh_list_turn p m ms ns (items ∷ p) c (entries key 0 [] vs) ca st1 le1)
          (kept_turn otherwise p k ls st1 r (fails_right made (nodes_in ls) (comment_node k) f)
          (else_fits _ (ElseStands app σ τ st0.look m b v ms p d k ls) (TurnIn (otherwise ∷ p) (FromStep 0) st1 (λ q. times_in q ls) r)
          (λ g. body_turn m b v ms (otherwise ∷ p) 0 d ls st1 g.1 (below_seen otherwise p v s) (fails_left made (nodes_in ls) (comment_node k) f) le1 o1) h.1))
      renew_turn m b v ms p (t.let_stmt es ns c) (Live.let_live made' rs ls) st h s f le o =
          let cl : Id → ℕ = λ q. times_in q ls in
          let ca : Id → ℕ = λ q. occurs q made' + cl q in
          let w = with_locals (bind ns (eval_all app σ v es)) v in
          let inside = with_names (named_as ns rs) ms in
          let r = renew_body app τ m inside (main ∷ p) 0 c ls st in
          inner_turn main p (FromStep 0) st r.1 cl ca (nodes_in r.0) (positions_in r.0) (λ i e. omega (arith, e))
          (body_turn m _ w inside (main ∷ p) 0 c ls st h.3 (below_seen main p w (named_seen p v ns (eval_all app σ v es) s (exprs_seen p v es s))) f le (own_part st ca cl (λ r. omega arith) o))
      renew_turn (suc m) b v ms p (t.component_stmt c ps given bs) (Live.component_live i made' gm args (Some k) ls) st h s f le o =
          let cl : Id → ℕ = λ q. times_in q ls in
          let ca : Id → ℕ = λ q. occurs q made' + cl q in
          let q = into c ∷ p in
          let w = scope q (eval_given app σ v given) [] (passed ps bs v) in
          let inside = mscope i args [] (mpassed k ps bs ms) in
          let r = renew_body app τ m inside q 0 (class_at app q).template ls st in
          inner_turn (into c) p (FromStep 0) st r.1 cl ca (nodes_in r.0) (positions_in r.0) (λ i e. omega (arith, e))
          (body_turn m _ w inside q 0 (class_at app q).template ls st h.7
          (λ g. (within_itself q, given_in (AtOrAbove q) app σ (cells g (AtOrAbove q)) v (below_seen (into c) p v s g) given, tt, below_seen (into c) p v s g)) f le (own_part st ca cl (λ r. omega arith) o))
      renew_turn zero b v ms p (t.component_stmt c ps given bs) (Live.deep_live q) st h s f le o = no_turn p AnyStep st
      renew_turn m b v ms p (t.yield es n) (Live.yield_live k made' rs ls) st h s f le o =
          let cl : Id → ℕ = λ q. times_in q ls in
          let ca : Id → ℕ = λ q. occurs q made' + cl q in
          let q = slot n ∷ p in
          let F : Block → Lives × State = λ c. renew_body app τ m (with_names (named_as c.params rs) (mwriter (passed_in ms))) q 0 c.body ls st in
          let r = where_block (block_named n (mslots (passed_in ms))) F (ls, st) in
          inner_turn (slot n) p (FromStep 0) st r.1 cl ca (nodes_in r.0) (positions_in r.0) (λ i e. omega (arith, e))
          (block_turn q (FromStep 0) (block_named n (mslots (passed_in ms))) F (BlockStands app σ τ st0.look m b v ms p es n made' rs ls) ls st
          (λ c g. let w = with_locals (bind c.params (eval_all app σ v es)) (writer (passed_of v)) in
          body_turn m _ w (with_names (named_as c.params rs) (mwriter (passed_in ms))) q 0 c.body ls st g.3
          (below_seen (slot n) p w (named_seen p (writer (passed_of v)) c.params (eval_all app σ v es) (writer_seen p v s) (exprs_seen p v es s))) f le (own_part st ca cl (λ r. omega arith) o)) h.1)
      renew_turn m b v ms p _ _ st h s f le o = absurd h

      pub body_turn : (m b : ℕ) (v : Scope) (ms : MScope) (p : Path) (i : ℕ) (c : t.Body) (ls : Lives) (st : State) → StandIn app σ τ st0.look m b v ms p i c ls → Seen p v → Fails made (nodes_in ls) → Later st → Own st (λ q. times_in q ls)
          → TurnIn p (FromStep i) st (λ q. times_in q ls) (renew_body app τ m ms p i c ls st)
      body_turn m b v ms p i t.end Live.no_lives st h s f le o = no_turn p (FromStep i) st
      body_turn m b v ms p i (t.stmt x c) (Live.live_and l ls) st h s f le o =
          let ca : Id → ℕ = λ q. times q l in
          let cb : Id → ℕ = λ q. times_in q ls in
          let r = renew app τ m ms (at i ∷ p) x l st in
          let g = child_turn (at i) p AnyStep st r.1 ca (nodes_of r.0) (positions_of r.0) (renew_turn m b v ms (at i ∷ p) x l st h.0 (below_seen (at i) p v s) (fails_left made (nodes_of l) (nodes_in ls) f) le (own_part st (λ q. ca q + cb q) ca (λ r. omega arith) o)) in
          let z = renew_body app τ m ms p (suc i) c ls r.1 in
          then_turn p (Only (at i)) (FromStep (suc i)) (FromStep i) st r.1 z.1 ca cb (nodes_of r.0) (nodes_in z.0) (positions_of r.0) (positions_in z.0)
          (λ j w. (i, omega arith, w)) (λ j w. (w.0, (let e = w.1 in omega (arith, e)), w.2)) (from_apart i) g
          (body_turn m b v ms p (suc i) c ls r.1 h.1 s (fails_right made (nodes_of l) (nodes_in ls) f) (turn_later p (Only (at i)) st r.1 ca (nodes_of r.0) (positions_of r.0) g le) (own_next p (Only (at i)) st r.1 ca cb (nodes_of r.0) (positions_of r.0) o g))
      body_turn m b v ms p i _ _ st h s f le o = absurd h

      -- the items of the list at p
      pub handles_turn : (m b : ℕ) (v : Scope) (ms : MScope) (p : Path) (ns : List Text) (c : t.Body) (xs : List Entry) (is : Items) → ItemsStand app σ τ st0.look m b v ms (items ∷ p) ns c xs is → Seen p v
          → (G → EntriesIn (AtOrAbove p) xs) → Fails made (nodes_items is) → AllTurn ns ms (items ∷ p) (handles app τ m c is)
      handles_turn m b v ms p ns c [] Live.no_items h s y f = tt
      handles_turn m b v ms p ns c (x ∷ xs) (Live.item_live z k ls is) h s y f =
          let fa = fails_left made (nodes_in ls ++ comment_node k) (nodes_items is) f in
          let q0 = item x.key x.occurrence ∷ (items ∷ p) in
          let w = with_locals (bind ns (entry_pairs q0 x)) v in
          let inside = with_names (item_names ns z) ms in
          let low = max b (top (item_made z)) in
          let seen : Seen q0 w = named_seen q0 v ns (entry_pairs q0 x) (below_seen (item x.key x.occurrence) (items ∷ p) v (below_seen items p v s))
          (λ g. (((within_itself q0, tt), owners_more (AtOrAbove p) (AtOrAbove q0) (λ j u. inr (inr u)) x.value (y g).0), (((within_itself q0, tt), tt), tt))) in (
            (
              (λ q st e le o. let e' : q ≡ q0 = e ∙ ap₂ (λ a n. item a n ∷ (items ∷ p)) h.0.0 h.0.1 in
                  body_turn m low w inside q 0 c ls st (subst (λ r. StandIn app σ τ st0.look m low w inside r 0 c ls) (sym e') h.4) (λ g. subst (λ r. ScopeIn (AtOrAbove r) w) (sym e') (seen g)) (fails_left made (nodes_in ls) (comment_node k) fa) le o),
              fails_right made (nodes_in ls) (comment_node k) fa,
            ),
            handles_turn m b v ms p ns c xs is h.5 s (λ g. (y g).1) (fails_right made (nodes_in ls ++ comment_node k) (nodes_items is) f),
          )
      handles_turn m b v ms p ns c _ _ h s y f = absurd h

    pub root_turn : (m : ℕ) (l : Live) (st : State) → RootStands app σ τ st0.look m l → Fails made (nodes_of l) → Later st → Own st (λ q. times q l) → TurnOf [] AnyStep st (λ q. times q l) (renew_root m app τ l st)
    root_turn (suc m) (Live.component_live i made' gm args None ls) st h f le o =
        let cl : Id → ℕ = λ q. times_in q ls in
        let ca : Id → ℕ = λ q. occurs q made' + cl q in
        let inside = mscope i args [] mnothing in
        let r = renew_body app τ m inside [] 0 (class_at app []).template ls st in
        turn_count [] (FromStep 0) AnyStep st r.1 cl ca (nodes_in r.0) (positions_in r.0) (λ j w. tt) (λ i e. omega (arith, e))
        (body_turn m _ no_place inside [] 0 (class_at app []).template ls st h.5 (λ g. (refl, tt, tt, tt)) f le (own_part st ca cl (λ r. omega arith) o))
    root_turn zero (Live.deep_live q) st h f le o = no_turn [] AnyStep st
    root_turn _ _ st h f le o = absurd h
