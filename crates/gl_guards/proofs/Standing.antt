-- Where a machine stands, its recorded program agrees with the state.
use Rattle.std.proofs.Common.{◌≡◌, ℕ, zero, suc, List, [], ◌∷◌, ◌++◌, map, Bool, true, false, Option, Some, None, refl, sym, ◌∙◌, ap, ap₂, subst, arith, inl, inr, ◌⊎◌}
use Rattle.std.specs.Prelude.{slice_get}
use Rattle.gl_base.specs.Texts.{Text}
use Rattle.gl_value.specs.Value.{Values, no_values, value, count_value}
use Rattle.gl_ast.specs.Template as t
use Rattle.gl_ast.specs.Template.{text_stmt, comment_stmt, put, element, component_stmt, if_stmt, each, let_stmt, yield, end, stmt}
use Rattle.gl_meaning.specs.App.{App}
use Rattle.gl_meaning.specs.Path.{at, main, otherwise, items, item, into, slot, Path, V}
use Rattle.gl_meaning.specs.Scope.{Scope, passed_of, with_locals, bind}
use Rattle.gl_meaning.specs.Eval.{Store, class_at, takes_first, eval_all}
use Rattle.gl_meaning.specs.Render.{Entry, entries, values_listed, Block, block_named}
use Rattle.gl_meaning.specs.Laws.{keeps_none, keeps_more}
use Rattle.gl_meaning.proofs.Frame.{keeps_itself}
use Rattle.gl_opc.specs.Numbers.{parameter_symbol}
use Rattle.gl_plain.specs.Ids.{Id, occurs}
use Rattle.gl_plain.specs.State.{Names, MScope, mscope, mpassed, passed_in, mslots, mwriter, writer, named_as, with_names, State}
use Rattle.gl_plain.specs.State as s
use Rattle.gl_plain.specs.Naming.{Naming, by_number}
use Rattle.gl_plain.specs.Binding.{first_value}
use Rattle.gl_plain.specs.Live
use Rattle.gl_plain.specs.Live.{AttrSpot, ModSpot, item_made, item_names, times, times_in, times_items, times_attrs, times_mods, times_comment}
use Rattle.gl_plain.specs.Grow.{grow_components_as, grow_yields_as}
use Rattle.gl_plain.specs.Renew.{fresh_body_as}
use Rattle.gl_plain.specs.Stands.{one_expr, WhereValues, WhereBlock, BlockStands, ListStands, ElseStands, Stands, StandIn, ItemsStand, Owned}
use Rattle.gl_plain.proofs.Moves.{left_owned, right_owned}
use Rattle.gl_plain.proofs.Rereads.{Cold}
use Rattle.gl_plain.proofs.Renewing.{Ready, let_ready, component_ready}
use Rattle.gl_plain.proofs.Renews.{yield_scopes}
use Rattle.gl_plain.proofs.Syncs.{item_ready}
use Rattle.gl_kept.specs.Around.{with_made, AttrsThere, ModsThere, There, ThereIn, ThereItems}
use Rattle.gl_naming.proofs.Choices.{where_list, where_else}
use Rattle.gl_naming.proofs.Later.{Later, body_later, yields_later, components_later}
use Rattle.gl_machine.specs.Sight.{Sight, Passing, with_locals as sight_locals}
use Rattle.gl_machine.specs.Code.{Choice, Listing, Code, still_code, put_code, element_code, branch_code, listed_code, unlisted_code, let_code, component_code, yield_code, ItemCodes, no_item_codes, item_code, items_of, Codes, no_codes, code_and, live_of, lives_of}
use Rattle.gl_machine.specs.Outcome.{Outcome, ok, deep, lost}
use Rattle.gl_machine.specs.RenewCode.{Runs, start, item_locals}
use Rattle.gl_machine.specs.Params.{Known, TwoKnown}
use Rattle.gl_machine.specs.Env.{Env, symbols_at, by_symbol, texts_of, seen}
use Rattle.gl_machine.specs.Placed.{Fits as FitsIn, BodyThere, ChoiceAt, ListingAt, WhereFound, Placed, PlacedIn, PlacedItems, FollowsIn, RunsRight_as}
use Rattle.gl_machine.proofs.Symbols.{known_two}
use Rattle.gl_machine.proofs.More.{seen_more, names_more, fits_more}
use Rattle.gl_guards.specs.Settled.{IsGiven, Leaves, Ended, OwnAttrs, OwnMods, AppendsApart, ChoiceApart, ListingApart, Owns, OwnsItems, OwnsIn, Told, Fits, Settled, SettledItems, SettledIn}
use Rattle.gl_guards.proofs.Told.{Seen}

-- What is recorded agrees with the state

module _ (naming : Naming) (env : Env) (σ τ : Store) (st st' : State) (sees : Seen naming env.app σ τ st st') where
  abbrev app : App
  app = env.app

  fits_of : (m b : ℕ) (v : Scope) (ms : MScope) (p : Path) (ns : List Text) (c : t.Body) (xs ys : List Entry) (is : ItemCodes) → sees.Entered ys xs → ItemsStand app σ τ st'.look m b v ms p ns c xs (items_of is) → Fits st.look ys is
  fits_of m b v ms p ns c [] ys no_item_codes e h = subst (λ zs. Fits st.look zs no_item_codes) (sym (sees.none ys e)) tt
  fits_of m b v ms p ns c (x ∷ xs) ys (item_code z k cs is) e h =
      let r = sees.some x xs ys e in
      subst (λ zs. Fits st.look zs (item_code z k cs is)) (sym r.2) (
        h.0.0 ∙ sym r.3,
        h.0.1 ∙ sym r.4,
        r.6 z.value _ h.0.2,
        sees.counts z.index x.index _ h.0.3 ∙ ap count_value (sym r.5),
        fits_of m b v ms p ns c xs r.1 is r.7 h.5,
      )
  fits_of m b v ms p ns c _ ys _ e h = absurd h

  list_holds : (m b : ℕ) (v : Scope) (ms : MScope) (p : Path) (key : Text) (ns : List Text) (c : t.Body) (key' : Text) (is : ItemCodes) → key' ≡ key → (us vs : Values Path) → WhereValues vs (ListStands app σ τ st'.look m b v ms p key ns c (items_of is)) ⊥
      → ((us ≡ no_values) × (vs ≡ no_values)) ⊎ ((x y : V) × (xs ys : Values Path) × (us ≡ value x xs) × (vs ≡ value y ys) × sees.Entered (entries key 0 [] (value x xs)) (entries key 0 [] (value y ys)))
      → WhereValues us (λ ws. Fits st.look (entries key' 0 [] ws) is) ⊥
  list_holds m b v ms p key ns c key' is ek us vs h (inl (a, d)) = absurd (subst (λ ws. WhereValues ws (ListStands app σ τ st'.look m b v ms p key ns c (items_of is)) ⊥) d h)
  list_holds m b v ms p key ns c key' is ek us vs h (inr (x, y, xs, ys, a, d, ent)) =
      subst (λ ws. WhereValues ws (λ ws'. Fits st.look (entries key' 0 [] ws') is) ⊥) (sym a)
      (subst (λ j. Fits st.look (entries j 0 [] (value x xs)) is) (sym ek)
      (fits_of m b v ms (items ∷ p) ns c (entries key 0 [] (value y ys)) (entries key 0 [] (value x xs)) is ent (subst (λ ws. WhereValues ws (ListStands app σ τ st'.look m b v ms p key ns c (items_of is)) ⊥) d h)))

  else_holds : (Q : Type 0) (us vs : Values Path) (key : Text) → WhereValues vs (λ ws. ⊥) Q
      → ((us ≡ no_values) × (vs ≡ no_values)) ⊎ ((x y : V) × (xs ys : Values Path) × (us ≡ value x xs) × (vs ≡ value y ys) × sees.Entered (entries key 0 [] (value x xs)) (entries key 0 [] (value y ys)))
      → WhereValues us (λ ws. ⊥) (Unit {0})
  else_holds Q us vs key h (inl (a, d)) = subst (λ ws. WhereValues ws (λ ws'. ⊥) (Unit {0})) (sym a) tt
  else_holds Q us vs key h (inr (x, y, xs, ys, a, d, ent)) = absurd (subst (λ ws. WhereValues ws (λ ws'. ⊥) Q) d h)

  block_settled : (m b : ℕ) (v w : Scope) (ms : MScope) (p : Path) (es : t.Exprs) (k : Text) (made : List Id) (rs : List ℕ) (cs : Codes) (around : Id → ℕ) (o : Option Block) → block_named k (mslots (passed_in ms)) ≡ o
      → WhereFound o (λ c. (q : ℕ) × (y : Passing) × PlacedIn env q (with_names (named_as c.params rs) (mwriter (passed_in ms))) y (slot k ∷ p) 0 c.body cs) (cs ≡ no_codes)
      → WhereBlock o (BlockStands app σ τ st'.look m b v ms p es k made rs (lives_of cs)) (lives_of cs ≡ Live.no_lives)
      → ((c : Block) → block_named k (mslots (passed_in ms)) ≡ Some c → (q : ℕ) (y : Passing) → PlacedIn env q (with_names (named_as c.params rs) (mwriter (passed_in ms))) y (slot k ∷ p) 0 c.body cs
      → BlockStands app σ τ st'.look m b v ms p es k made rs (lives_of cs) c → SettledIn naming st (with_made made around) (slot k ∷ p) 0 cs)
      → SettledIn naming st (with_made made around) (slot k ∷ p) 0 cs
  block_settled m b v w ms p es k made rs cs around None e a h step = subst (λ ks. SettledIn naming st (with_made made around) (slot k ∷ p) 0 ks) (sym a) tt
  block_settled m b v w ms p es k made rs cs around (Some c) e (q, y, a) h step = step c e q y a h

  mutual
    pub code_settled : (m b n : ℕ) (v w : Scope) (ms : MScope) (u : Passing) (p : Path) (x : t.Stmt) (k : Code) (around : Id → ℕ) → Placed env n ms u p x k → Stands app σ τ st'.look m b v ms p x (live_of k) → Ready app σ τ b st' ms v w
        → Owned st' (λ q. times q (live_of k)) → There app st.look around (live_of k) → Settled naming st around p k
    code_settled m b n v w ms u p (text_stmt d) (still_code i) around a h r o th = tt
    code_settled m b n v w ms u p (comment_stmt d) (still_code i) around a h r o th = tt
    code_settled m b n v w ms u p (put e) (put_code i x) around a h r o th = tt
    code_settled m b n v w ms u p (element tag ps d) (element_code i made xs zs cs) around a h r o th =
        let oa : Owned st' (λ q. times_in q (lives_of cs)) = record { once = λ q. let j = o.once q in omega (arith, j); old = λ q le. let j = o.old q le in omega (arith, j) } in
        codes_settled m b n v w ms u p 0 d cs around a h.3 r oa th.4
    code_settled m b n v w ms u p (if_stmt e unless c d) (branch_code z x true k cs) around (a, more) h r o th =
        let oa : Owned st' (λ q. times_in q (lives_of cs)) = record { once = λ q. let j = o.once q in omega (arith, j); old = λ q le. let j = o.old q le in omega (arith, j) } in (
          sees.told b ms v w x (one_expr e) around (λ val. takes_first z.unless val ≡ true) r h.0 th.0.1
              (λ ps y. ap (λ un. takes_first un (first_value ps)) a.0 ∙ (sees.takes ps (eval_all app σ v (one_expr e)) unless y ∙ h.1)),
          codes_settled m b n v w ms u (main ∷ p) 0 c cs around more h.3 r oa th.2,
        )
    code_settled m b n v w ms u p (if_stmt e unless c d) (branch_code z x false k cs) around (a, more) h r o th =
        let oa : Owned st' (λ q. times_in q (lives_of cs)) = record { once = λ q. let j = o.once q in omega (arith, j); old = λ q le. let j = o.old q le in omega (arith, j) } in (
          sees.told b ms v w x (one_expr e) around (λ val. takes_first z.unless val ≡ false) r h.0 th.0.1
              (λ ps y. ap (λ un. takes_first un (first_value ps)) a.0 ∙ (sees.takes ps (eval_all app σ v (one_expr e)) unless y ∙ h.1)),
          codes_settled m b n v w ms u (otherwise ∷ p) 0 d cs around more h.3 r oa th.2,
        )
    code_settled m b n v w ms u p (each e key ns c d) (listed_code z x is) around (a, more) h r o th =
        let es = eval_all app σ v (one_expr e) in
        let oi = right_owned st' (λ q. occurs q x.made) (λ q. times_items q (items_of is)) o in (
          sees.told b ms v w x (one_expr e) around (λ val. WhereValues (values_listed val) (λ vs. Fits st.look (entries z.key 0 [] vs) is) ⊥) r h.0 th.0.1
              (λ ps y. list_holds m b v ms p key ns c z.key is a.0 (values_listed (first_value ps)) (values_listed (first_value es)) h.1 (sees.lists ps es key y)),
          where_list (SettledItems naming st around (items ∷ p) is) (values_listed (first_value es)) (ListStands app σ τ st'.look m b v ms p key ns c (items_of is))
              (λ vs hi. items_settled m b n v w ms u (items ∷ p) ns c (entries key 0 [] vs) is around more hi r oi th.1) h.1,
        )
    code_settled m b n v w ms u p (each e key ns c d) (unlisted_code z x k cs) around (a, more) h r o th =
        let es = eval_all app σ v (one_expr e) in
        let oa : Owned st' (λ q. times_in q (lives_of cs)) = record { once = λ q. let j = o.once q in omega (arith, j); old = λ q le. let j = o.old q le in omega (arith, j) } in (
          sees.told b ms v w x (one_expr e) around (λ val. WhereValues (values_listed val) (λ vs. ⊥) (Unit {0})) r h.0 th.0.1
              (λ ps y. else_holds (ElseStands app σ τ st'.look m b v ms p d k (lives_of cs)) (values_listed (first_value ps)) (values_listed (first_value es)) key h.1 (sees.lists ps es key y)),
          where_else (SettledIn naming st around (otherwise ∷ p) 0 cs) (values_listed (first_value es)) (ElseStands app σ τ st'.look m b v ms p d k (lives_of cs))
              (λ hi. codes_settled m b n v w ms u (otherwise ∷ p) 0 d cs around more hi.1 r oa th.2) h.1,
        )
    code_settled m b n v w ms u p (let_stmt es ns c) (let_code made rs cs) around a h r o th =
        let oa = left_owned st' (λ q. occurs q made) (λ q. times_in q (lives_of cs)) o in
        let ob = right_owned st' (λ q. occurs q made) (λ q. times_in q (lives_of cs)) o in
        (th.0, codes_settled m _ n _ _ (with_names (named_as ns rs) ms) u (main ∷ p) 0 c cs (with_made made around) a h.3 (let_ready app σ τ b st' ms v w es ns made (named_as ns rs) r oa h.0 h.1) ob th.2)
    code_settled zero b n v w ms u p (component_stmt c ps given bs) (component_code i made gm args (Some k) cs) around a h r o th = absurd h
    code_settled (suc m) b n v w ms u p (component_stmt c ps given bs) (component_code i made gm args (Some k) cs) around (j, y, is, a) h r o th =
        let oa = left_owned st' (λ q. occurs q made) (λ q. times_in q (lives_of cs)) o in
        let ob = right_owned st' (λ q. occurs q made) (λ q. times_in q (lives_of cs)) o in (
          th.0,
          subst (λ q. SettledIn naming st (with_made made around) q 0 cs) (sym is)
              (codes_settled m _ j _ _ (mscope i args [] (mpassed k ps bs ms)) y (into c ∷ p) 0 (class_at app (into c ∷ p)).template cs (with_made made around) a h.7
              (component_ready app σ τ b st' ms v w (into c ∷ p) ps given bs i made gm args k r oa h.2 h.3.2 h.4 h.5) ob th.3),
        )
    code_settled m b n v w ms u p (yield es k) (yield_code j made rs cs) around (is, a) h r o th =
        let oa = left_owned st' (λ q. occurs q made) (λ q. times_in q (lives_of cs)) o in
        let ob = right_owned st' (λ q. occurs q made) (λ q. times_in q (lives_of cs)) o in (
          th.0,
          subst (λ i. SettledIn naming st (with_made made around) (slot i ∷ p) 0 cs) (sym is)
              (block_settled m b v w ms p es k made rs cs around (block_named k (mslots (passed_in ms))) refl a h.1
              (λ c e q y pl g. codes_settled m _ q _ _ (with_names (named_as c.params rs) (mwriter (passed_in ms))) y (slot k ∷ p) 0 c.body cs (with_made made around) pl g.3
              (yield_scopes app σ τ b st' ms v w es k c made (named_as c.params rs) e r oa g.0 g.1) ob th.2)),
        )
    code_settled m b n v w ms u p _ _ around a h r o th = absurd a

    pub codes_settled : (m b n : ℕ) (v w : Scope) (ms : MScope) (u : Passing) (p : Path) (i : ℕ) (c : t.Body) (cs : Codes) (around : Id → ℕ) → PlacedIn env n ms u p i c cs → StandIn app σ τ st'.look m b v ms p i c (lives_of cs) → Ready app σ τ b st' ms v w
        → Owned st' (λ q. times_in q (lives_of cs)) → ThereIn app st.look around (lives_of cs) → SettledIn naming st around p i cs
    codes_settled m b n v w ms u p i end no_codes around a h r o th = tt
    codes_settled m b n v w ms u p i (stmt x c) (code_and k cs) around (a, more) h r o th = (
      code_settled m b n v w ms u (at i ∷ p) x k around a h.0 r (left_owned st' (λ q. times q (live_of k)) (λ q. times_in q (lives_of cs)) o) th.0,
      codes_settled m b n v w ms u p (suc i) c cs around more h.1 r (right_owned st' (λ q. times q (live_of k)) (λ q. times_in q (lives_of cs)) o) th.1,
    )
    codes_settled m b n v w ms u p i end (code_and k cs) around a h r o th = absurd a
    codes_settled m b n v w ms u p i (stmt x c) no_codes around a h r o th = absurd a

    items_settled : (m b n : ℕ) (v w : Scope) (ms : MScope) (u : Passing) (p : Path) (ns : List Text) (c : t.Body) (xs : List Entry) (is : ItemCodes) (around : Id → ℕ) → PlacedItems env n ms u p ns c is
        → ItemsStand app σ τ st'.look m b v ms p ns c xs (items_of is) → Ready app σ τ b st' ms v w → Owned st' (λ q. times_items q (items_of is)) → ThereItems app st.look around (items_of is) → SettledItems naming st around p is
    items_settled m b n v w ms u p ns c [] no_item_codes around a h r o th = tt
    items_settled m b n v w ms u p ns c (x ∷ xs) (item_code z k cs is) around (a, more) h r o th =
        let q = item x.key x.occurrence ∷ p in
        let e : q ≡ item z.key z.occurrence ∷ p = ap₂ (λ y i. item y i ∷ p) (sym h.0.0) (sym h.0.1) in
        let oi : Owned st' (λ i. occurs i (item_made z)) = record { once = λ i. let j = o.once i in omega (arith, j); old = λ i le. let j = o.old i le in omega (arith, j) } in
        let ol : Owned st' (λ i. times_in i (lives_of cs)) = record { once = λ i. let j = o.once i in omega (arith, j); old = λ i le. let j = o.old i le in omega (arith, j) } in
        let or : Owned st' (λ i. times_items i (items_of is)) = record { once = λ i. let j = o.once i in omega (arith, j); old = λ i le. let j = o.old i le in omega (arith, j) } in
        let ready = item_ready app σ τ b st' ms v w q ns x x z r oi h.0 h.1 (keeps_more (keeps_itself (Cold st') _) (keeps_more (keeps_itself (Cold st') _) keeps_none)) in (
          (
            th.0.0,
            subst (λ j. Rattle.gl_guards.specs.Settled.HoldsSource st.look z.value (naming.value_source z.value j)) e (sees.value_held z.value q x.value h.0.2),
            subst (λ j. Rattle.gl_guards.specs.Settled.HoldsSource st.look z.index (naming.index_source z.index j)) e (sees.index_held z.index q (count_value x.index) h.0.3),
            subst (λ j. SettledIn naming st (with_made (item_made z) around) j 0 cs) e
                (codes_settled m _ n _ _ (with_names (item_names ns z) ms) u q 0 c cs (with_made (item_made z) around) (subst (λ j. PlacedIn env n (with_names (named_as ns z.params) ms) u j 0 c cs) (sym e) a) h.4 ready ol th.0.3),
          ),
          items_settled m b n v w ms u p ns c xs is around more h.5 r or th.1,
        )
    items_settled m b n v w ms u p ns c [] (item_code z k cs is) around a h r o th = absurd h
    items_settled m b n v w ms u p ns c (x ∷ xs) no_item_codes around a h r o th = absurd h

-- What is recorded is its own

module _ (naming : Naming) (env : Env) (run : Runs) where
  -- bodies that are appended from recorded addresses leave all that was there
  abbrev pub RunsApart : Type 0
  RunsApart =
      (c : ℕ) (ms : MScope) (w : Passing) → FitsIn env c ms w → (from : ℕ) (b : t.Body) → BodyThere env c (texts_of (s.locals_in ms)) from b
      → (p : Path) (m : ℕ) (st : State) → Ended (run (start (seen env c ms w) from p m) st) (λ r. Leaves naming st r.1 (λ q. 0))

  attrs_own : (app' : App) (look : Id → Option s.Thing) (around : Id → ℕ) (xs : List AttrSpot) → AttrsThere app' look around xs → OwnAttrs xs
  attrs_own app' look around [] h = tt
  attrs_own app' look around (a ∷ xs) h = (h.0.0, attrs_own app' look around xs h.1)

  mods_own : (app' : App) (look : Id → Option s.Thing) (around : Id → ℕ) (zs : List ModSpot) → ModsThere app' look around zs → OwnMods zs
  mods_own app' look around [] h = tt
  mods_own app' look around (z ∷ zs) h = (h.1.0, mods_own app' look around zs h.2)

  module _ (apart : RunsApart) where
    body_apart : (c : ℕ) (ms : MScope) (w : Passing) (v : Sight) (from : ℕ) (b : t.Body) → v ≡ seen env c ms w → FitsIn env c ms w → BodyThere env c (texts_of (s.locals_in ms)) from b → AppendsApart naming run v from
    body_apart c ms w v from b e fits there = subst (λ x. AppendsApart naming run x from) (sym e) (λ p m st. apart c ms w fits from b there p m st)

    names_apart : (c : ℕ) (ms : MScope) (w : Passing) (body : ℕ) (a : t.Body) → FitsIn env c ms w → (names : Names) → Known (symbols_at env c) (texts_of names) → BodyThere env c (texts_of (s.locals_in ms) ++ texts_of names) body a
        → AppendsApart naming run (sight_locals (map (by_symbol (symbols_at env c)) names) (seen env c ms w)) body
    names_apart c ms w body a fits names known there =
        body_apart c (with_names names ms) w (sight_locals (map (by_symbol (symbols_at env c)) names) (seen env c ms w)) body a (seen_more env c ms w names) (fits_more env c ms w names fits known)
        (subst (λ ts. BodyThere env c ts body a) (sym (names_more ms names)) there)

    module _ (c : ℕ) (ms : MScope) (w : Passing) (key : Text) (body other : ℕ) (a : t.Body) (fits : FitsIn env c ms w) where
      abbrev listing : List Text → Listing
      listing ns = record { key = key; value = parameter_symbol (symbols_at env c) (slice_get ns 0); index = parameter_symbol (symbols_at env c) (slice_get ns 1); body = body; other = other; sight = seen env c ms w }

      ones_apart : (ns : List Text) → TwoKnown (symbols_at env c) ns → Known (symbols_at env c) ns → BodyThere env c (texts_of (s.locals_in ms) ++ ns) body a → (v i : ℕ)
          → AppendsApart naming run (sight_locals (item_locals (listing ns) v i) (seen env c ms w)) body
      ones_apart [] d known there v i = names_apart c ms w body a fits [] known there
      ones_apart (n ∷ []) d known there v i = names_apart c ms w body a fits ((n, v) ∷ []) known there
      ones_apart (n ∷ k ∷ []) d known there v i = names_apart c ms w body a fits ((n, v) ∷ (k, i) ∷ []) known there
      ones_apart (n ∷ k ∷ j ∷ ns) d known there v i = absurd d

    abbrev made_listing : Text → ℕ → ℕ → ℕ → ℕ → Sight → Listing
    made_listing k v i b o d = record { key = k; value = v; index = i; body = b; other = o; sight = d }

    rebuilt : (k k' : Text) → k ≡ k' → (v v' : ℕ) → v ≡ v' → (i i' : ℕ) → i ≡ i' → (b o : ℕ) (d d' : Sight) → d ≡ d' → made_listing k' v' i' b o d' ≡ made_listing k v i b o d
    rebuilt k k' ek v v' ev i i' ei b o d d' ed =
        ap (λ y. made_listing k' v' i' b o y) (sym ed) ∙ (ap (λ y. made_listing k' v' y b o d) (sym ei) ∙ (ap (λ y. made_listing k' y i b o d) (sym ev) ∙ ap (λ y. made_listing y v i b o d) (sym ek)))

    choice_apart : (c : ℕ) (ms : MScope) (w : Passing) (unless : Bool) (a b : t.Body) (z : Choice) → ChoiceAt env c ms w unless a b z → ChoiceApart naming run z
    choice_apart c ms w unless a b z h = (body_apart c ms w z.sight z.first a h.1 h.2 h.3, body_apart c ms w z.sight z.second b h.1 h.2 h.4)

    listing_apart : (c : ℕ) (ms : MScope) (w : Passing) (key : Text) (ns : List Text) (a b : t.Body) (z : Listing) → ListingAt env c ms w key ns a b z → ListingApart naming run z
    listing_apart c ms w key ns a b z h = (
      λ v i. subst (λ y. AppendsApart naming run (sight_locals (item_locals y v i) y.sight) y.body) (rebuilt z.key key h.0 z.value _ h.1 z.index _ h.2 z.body z.other z.sight _ h.4)
          (ones_apart c ms w key z.body z.other a h.5 ns h.3 (known_two (symbols_at env c) ns h.3) h.6 v i),
      body_apart c ms w z.sight z.other b h.4 h.5 h.7,
    )

    module _ (app : App) (look : Id → Option s.Thing) where
      block_owns : (ms : MScope) (p : Path) (k : Text) (rs : List ℕ) (cs : Codes) (o : Option Block)
          → WhereFound o (λ c. (q : ℕ) × (y : Passing) × PlacedIn env q (with_names (named_as c.params rs) (mwriter (passed_in ms))) y (slot k ∷ p) 0 c.body cs) (cs ≡ no_codes)
          → ((c : Block) (q : ℕ) (y : Passing) → PlacedIn env q (with_names (named_as c.params rs) (mwriter (passed_in ms))) y (slot k ∷ p) 0 c.body cs → OwnsIn naming run cs) → OwnsIn naming run cs
      block_owns ms p k rs cs None e step = subst (OwnsIn naming run) (sym e) tt
      block_owns ms p k rs cs (Some c) (q, y, a) step = step c q y a

      mutual
        code_owns : (n : ℕ) (ms : MScope) (u : Passing) (p : Path) (x : t.Stmt) (k : Code) (around : Id → ℕ) → Placed env n ms u p x k → There app look around (live_of k) → Owns naming run k
        code_owns n ms u p (text_stmt d) (still_code i) around a th = tt
        code_owns n ms u p (comment_stmt d) (still_code i) around a th = tt
        code_owns n ms u p (put e) (put_code i x) around a th = th.1.0
        code_owns n ms u p (element tag ps d) (element_code i made xs zs cs) around a th = (attrs_own app look (with_made made around) xs th.2, mods_own app look (with_made made around) zs th.3, codes_own n ms u p 0 d cs around a th.4)
        code_owns n ms u p (if_stmt e unless c d) (branch_code z x true k cs) around (a, more) th = (th.0.0, choice_apart n ms u unless c d z a, codes_own n ms u (main ∷ p) 0 c cs around more th.2)
        code_owns n ms u p (if_stmt e unless c d) (branch_code z x false k cs) around (a, more) th = (th.0.0, choice_apart n ms u unless c d z a, codes_own n ms u (otherwise ∷ p) 0 d cs around more th.2)
        code_owns n ms u p (each e key ns c d) (listed_code z x is) around (a, more) th = (th.0.0, listing_apart n ms u key ns c d z a, items_own n ms u (items ∷ p) ns c is around more th.1)
        code_owns n ms u p (each e key ns c d) (unlisted_code z x k cs) around (a, more) th = (th.0.0, listing_apart n ms u key ns c d z a, codes_own n ms u (otherwise ∷ p) 0 d cs around more th.2)
        code_owns n ms u p (let_stmt es ns c) (let_code made rs cs) around a th = codes_own n (with_names (named_as ns rs) ms) u (main ∷ p) 0 c cs (with_made made around) a th.2
        code_owns n ms u p (component_stmt c ps given bs) (component_code i made gm args (Some k) cs) around (j, y, is, a) th =
            codes_own j (mscope i args [] (mpassed k ps bs ms)) y (into c ∷ p) 0 (class_at env.app (into c ∷ p)).template cs (with_made made around) a th.3
        code_owns n ms u p (yield es k) (yield_code j made rs cs) around (is, a) th =
            block_owns ms p k rs cs (block_named k (mslots (passed_in ms))) a (λ c q y pl. codes_own q (with_names (named_as c.params rs) (mwriter (passed_in ms))) y (slot k ∷ p) 0 c.body cs (with_made made around) pl th.2)
        code_owns n ms u p _ _ around a th = absurd a

        pub codes_own : (n : ℕ) (ms : MScope) (u : Passing) (p : Path) (i : ℕ) (c : t.Body) (cs : Codes) (around : Id → ℕ) → PlacedIn env n ms u p i c cs → ThereIn app look around (lives_of cs) → OwnsIn naming run cs
        codes_own n ms u p i end no_codes around a th = tt
        codes_own n ms u p i (stmt x c) (code_and k cs) around (a, more) th = (code_owns n ms u (at i ∷ p) x k around a th.0, codes_own n ms u p (suc i) c cs around more th.1)
        codes_own n ms u p i end (code_and k cs) around a th = absurd a
        codes_own n ms u p i (stmt x c) no_codes around a th = absurd a

        items_own : (n : ℕ) (ms : MScope) (u : Passing) (p : Path) (ns : List Text) (c : t.Body) (is : ItemCodes) (around : Id → ℕ) → PlacedItems env n ms u p ns c is → ThereItems app look around (items_of is) → OwnsItems naming run is
        items_own n ms u p ns c no_item_codes around a th = tt
        items_own n ms u p ns c (item_code z k cs is) around (a, more) th =
            (codes_own n (with_names (named_as ns z.params) ms) u (item z.key z.occurrence ∷ p) 0 c cs (with_made (item_made z) around) a th.0.3, items_own n ms u p ns c is around more th.1)

-- By numbers bodies are appended so.
pub runs_apart : (env : Env) (store : Store) (run : Runs) → RunsRight_as by_number env store run → RunsApart by_number env run
runs_apart env store run right c ms w fits from b there p m st = by (run (start (seen env c ms w) from p m) st) (right c ms w fits from b there p m st) where
  later : Later st (fresh_body_as by_number env.app store m ms p b st).1
  later =
      let d = grow_components_as by_number m env.app store in
      body_later env.app d (grow_yields_as by_number env.app d (passed_in ms)) (components_later m env.app store) (yields_later env.app d (components_later m env.app store) (passed_in ms)) b ms p 0 st

  given : (y : Rattle.gl_meaning.specs.Scope.Source) → IsGiven by_number st y → (fresh_body_as by_number env.app store m ms p b st).1.touched y ≡ st.touched y
  given y (r, lt, q, n, inl e) = subst (λ z. (fresh_body_as by_number env.app store m ms p b st).1.touched z ≡ st.touched z) (sym e) (later.warm r lt)
  given y (r, lt, q, n, inr (inl e)) = subst (λ z. (fresh_body_as by_number env.app store m ms p b st).1.touched z ≡ st.touched z) (sym e) (later.warm r lt)
  given y (r, lt, q, n, inr (inr e)) = subst (λ z. (fresh_body_as by_number env.app store m ms p b st).1.touched z ≡ st.touched z) (sym e) (later.warm r lt)

  by : (o : Outcome (Codes × State)) → FollowsIn (PlacedIn env c ms w p 0 b) o (fresh_body_as by_number env.app store m ms p b st) → Ended o (λ r. Leaves by_number st r.1 (λ q. 0))
  by (ok x) (e, fine, placed) =
      subst (λ y. Leaves by_number st y (λ q. 0)) (sym (ap (λ y. y.1) e)) (record { more = later.more; rows = λ q lt z. later.rows q lt; still = λ y g f. sym (given y g) ∙ f })
  by deep h = tt
  by lost h = tt
