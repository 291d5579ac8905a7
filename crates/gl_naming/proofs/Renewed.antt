-- What is updated with other names.
use Rattle.std.proofs.Common.{◌≡◌, ◌<◌, ◌≤◌, ◌+◌, ℕ, zero, suc, max, List, [], ◌∷◌, map, Bool, true, false, Option, Some, None, cond, refl, sym, ap, ap₂, ◌∙◌, subst, arith, inl, inr, ◌⊎◌}
use Rattle.std.specs.Prelude.{if◌then◌else◌}
use Rattle.std.proofs.lemmas.Bool.{cases_lt}
use Rattle.std.proofs.lemmas.Bool.Decides.{Decides-eqb}
use Rattle.gl_base.specs.Texts.{Text}
use Rattle.gl_value.specs.Value.{Values, no_values, value, count_value, same}
use Rattle.gl_value.specs.Owners.{values_with}
use Rattle.gl_ast.specs.Template as t
use Rattle.gl_meaning.specs.App.{App}
use Rattle.gl_meaning.specs.Path.{at, main, otherwise, items, item, into, slot, Path, no_owners}
use Rattle.gl_meaning.specs.Scope.{Source, item_value, item_index, Scope, with_locals, bind}
use Rattle.gl_meaning.specs.Eval.{Store, class_at, takes_first}
use Rattle.gl_meaning.specs.Parts.{WrittenValue, WrittenModifier}
use Rattle.gl_meaning.specs.Render.{Entry, entries, entry_pairs, values_listed, Block, block_named}
use Rattle.gl_meaning.proofs.Equal.{both_left, both_right, same_means, no_owners-Decides}
use Rattle.gl_plain.specs.Ids.{a_ref, Id, ref, occurs}
use Rattle.gl_plain.specs.State.{MScope, mscope, MPassed, mnothing, mpassed, passed_in, Inst, Names, named_as, with_names, Thing, State, dropped}
use Rattle.gl_plain.specs.Naming.{by_number, dropped_as}
use Rattle.gl_plain.specs.Binding.{Spot, first_value}
use Rattle.gl_plain.specs.Live
use Rattle.gl_plain.specs.Live.{AttrSpot, ModSpot, item_names, item_made, Live, Lives, Items, times, times_in, times_items, times_comment, times_attrs, times_mods}
use Rattle.gl_plain.specs.Grow.{Arm, or_comment, ItemGrown, grow_entries, branch_from, unlisted_from, listed_from, grow_components, grow_components_as, grow_yields, grow_yields_as}
use Rattle.gl_plain.specs.Renew.{spot_pairs, reread, renew_attrs, renew_mods, give, Handle, times_handle, times_handles, is_of, with_front, taken, renew_item, renew_item_as, sync_one, sync_one_as, sync, sync_as, where_values, where_block, fresh_body, fresh_body_as, fresh_items, fresh_items_as, renew, renew_as, renew_body, renew_body_as, handles, handles_as, renew_root, renew_root_as, renew_app, renew_app_as}
use Rattle.gl_plain.specs.Stands.{top, WhereBlock, AttrsStand, ModsStand, Stands, StandIn, ItemsStand, ListStands, ElseStands, BlockStands, attrs_by, mods_by}
use Rattle.gl_plain.specs.Machine.{no_place, RootStands, StandsFor}
use Rattle.gl_plain.proofs.Moves.{hit_self}
use Rattle.gl_naming.specs.Laws.{IsOneToOne, AreApart, TouchedAlike, UpdatedRenamed}
use Rattle.gl_naming.specs.Renamed.{state_with, run_with, arm_with, grown_with, entry_with, StoresAgree, ScopeRight, SpotRight, Right, RightItems, RightIn}
use Rattle.gl_naming.specs.Numbered.{number, IsNumbered, Unlisted}
use Rattle.gl_naming.proofs.Choices.{where_list, where_else}
use Rattle.gl_naming.proofs.Low.{Whole}
use Rattle.gl_naming.proofs.Pairs.{takes_to}
use Rattle.gl_naming.proofs.Tagged.{first_on}
use Rattle.gl_naming.proofs.Grown.{listed_on, entries_on, arm_same, item_same, entries_same, body_same, yields_same, components_same}
use Rattle.gl_naming.proofs.Later.{Later, arm_later, entries_later, item_later, body_later, yields_later, components_later}
use Rattle.gl_naming.proofs.Steps.{Hot, im, Near, near_later, Own, Goes, own_part, own_next, goes_then, goes_more, goes_later, goes_still, Step, pairs_same, reread_step, text_step, AttrsLow, attrs_step, ModsLow, mods_step, give_step, drop_step}

module _ (f : Path → Path) (g : Source → Source) (once : (o p : Path) → f o ≡ f p → o ≡ p) (apart : (x y : Source) → g x ≡ g y → x ≡ y) (n0 : ℕ) where
  abbrev to : Hot → State → State
  to hot st = im f g once apart n0 hot st

  abbrev NearTo : Hot → State → Type 0
  NearTo hot st = Near f g once apart n0 hot st

  abbrev Owns : (Id → ℕ) → State → Type 0
  Owns c st = Own f g once apart n0 c st

  abbrev GoesTo : (Id → ℕ) → State → State → Type 0
  GoesTo a st st' = Goes f g once apart n0 a st st'

  abbrev StepTo : (Id → ℕ) → State → State → State → Type 0
  StepTo a st n p = Step f g once apart n0 a st n p

  -- what a part becomes by numbers and by paths
  pub record Renewed (A : Type 0) (a : Id → ℕ) (st : State) (n p : A × State) : Type 0 where
    pub hot : Hot
    pub is : p ≡ run_with f g hot n
    pub near : NearTo hot n.1
    pub goes : GoesTo a st n.1

  record ArmRenewed (a : Id → ℕ) (st : State) (n p : Arm) : Type 0 where
    pub hot : Hot
    pub is : p ≡ arm_with f g hot n
    pub near : NearTo hot n.state
    pub goes : GoesTo a st n.state

  record ItemRenewed (a : Id → ℕ) (st : State) (n p : ItemGrown) : Type 0 where
    pub hot : Hot
    pub is : p ≡ grown_with f g hot n
    pub near : NearTo hot n.arm.state
    pub goes : GoesTo a st n.arm.state

  -- it is as it was
  kept_all : (A : Type 0) (a : Id → ℕ) (hot : Hot) (st : State) (x : A) → NearTo hot st → Renewed A a st (x, st) (x, to hot st)
  kept_all A a hot st x h = record { hot = hot; is = refl; near = h; goes = goes_still f g once apart n0 a st }

  -- after a step on the state
  after_step : (A : Type 0) (c a b : Id → ℕ) (st st1 p1 : State) → ((q : Id) → a q + b q ≤ c q) → (s : StepTo a st st1 p1) → (P : State → A × State) (n : A × State)
      → Renewed A b st1 n (P (to s.hot st1)) → Renewed A c st n (P p1)
  after_step A c a b st st1 p1 le s P n r = record { hot = r.hot; is = ap P s.is ∙ r.is; near = r.near; goes = goes_then f g once apart n0 c a b st st1 n.1 le s.goes r.goes }

  from_same : (A : Type 0) (a : Id → ℕ) (st : State) (n p q : A × State) → q ≡ p → Renewed A a st n p → Renewed A a st n q
  from_same A a st n p q e r = record { hot = r.hot; is = e ∙ r.is; near = r.near; goes = r.goes }

  within : (A B : Type 0) (c a : Id → ℕ) (st : State) (n p : A × State) → ((q : Id) → a q ≤ c q) → (F : A → B) → Renewed A a st n p → Renewed B c st (F n.0, n.1) (F p.0, p.1)
  within A B c a st n p le F r = record { hot = r.hot; is = ap (λ x. (F x.0, x.1)) r.is; near = r.near; goes = goes_more f g once apart n0 c a st n.1 le r.goes }

  low_ref : (c : Id → ℕ) (st : State) → Owns c st → (r : ℕ) → 0 < c (ref r) → r < n0
  low_ref c st o r w = by (cases_lt r n0) where
    by : ((r < n0) ⊎ (n0 ≤ r)) → r < n0
    by (inl lt) = lt
    by (inr le) = let i = o.low r le in absurd (omega (arith, i, w))

  takes_same : (hot : Hot) (st : State) (unless : Bool) (r : ℕ) → takes_first unless (first_value (spot_pairs (to hot st) r)) ≡ takes_first unless (first_value (spot_pairs st r))
  takes_same hot st unless r =
      ap (λ ps. takes_first unless (first_value ps)) (pairs_same f g once apart n0 hot st r) ∙ (ap (takes_first unless) (first_on f g (spot_pairs st r)) ∙ takes_to f g unless (first_value (spot_pairs st r)))

  listed_same : (hot : Hot) (st : State) (r : ℕ) → values_listed (first_value (spot_pairs (to hot st) r)) ≡ values_with f (values_listed (first_value (spot_pairs st r)))
  listed_same hot st r =
      ap (λ ps. values_listed (first_value ps)) (pairs_same f g once apart n0 hot st r) ∙ (ap values_listed (first_on f g (spot_pairs st r)) ∙ listed_on f (first_value (spot_pairs st r)))

  -- Arms

  kept_arm : (k : Option ℕ) (c a : Id → ℕ) (st : State) (n p : Lives × State) → ((q : Id) → a q ≤ c q) → Renewed Lives a st n p
      → ArmRenewed c st (record { comment = k; lives = n.0; state = n.1 }) (record { comment = k; lives = p.0; state = p.1 })
  kept_arm k c a st n p le r = record { hot = r.hot; is = ap (λ (x : Lives × State). record { comment = k; lives = x.0; state = x.1 }) r.is; near = r.near; goes = goes_more f g once apart n0 c a st n.1 le r.goes }

  branch_renewed : (u : Bool) (z : Spot) (p : Path) (c : Id → ℕ) (st : State) (n n' r r' : Arm) → (RightIn f g (main ∷ p) 0 n.lives → ArmRenewed c st n r) → (RightIn f g (otherwise ∷ p) 0 n'.lives → ArmRenewed c st n' r')
      → Right f g p (cond {A = Live × State} u (branch_from z true n) (branch_from z false n')).0
      → Renewed Live c st (cond u (branch_from z true n) (branch_from z false n')) (cond u (branch_from z true r) (branch_from z false r'))
  branch_renewed true z p c st n n' r r' h k right = let a = h right in record { hot = a.hot; is = ap (branch_from z true) a.is; near = a.near; goes = a.goes }
  branch_renewed false z p c st n n' r r' h k right = let a = k right in record { hot = a.hot; is = ap (branch_from z false) a.is; near = a.near; goes = a.goes }

  list_renewed : (vs : Values Path) (z : Spot) (p : Path) (c : Id → ℕ) (st : State) (F G : Values Path → Items × State) (n r : Arm)
      → ((us : Values Path) → RightItems f g (items ∷ p) (F us).0 → Renewed Items c st (F us) (G (values_with f us))) → (RightIn f g (otherwise ∷ p) 0 n.lives → ArmRenewed c st n r)
      → Right f g p (where_values vs (λ us. listed_from z (F us)) (unlisted_from z n)).0
      → Renewed Live c st (where_values vs (λ us. listed_from z (F us)) (unlisted_from z n)) (where_values (values_with f vs) (λ us. listed_from z (G us)) (unlisted_from z r))
  list_renewed no_values z p c st F G n r h k right = let a = k right in record { hot = a.hot; is = ap (unlisted_from z) a.is; near = a.near; goes = a.goes }
  list_renewed (value v vs) z p c st F G n r h k right = let a = h (value v vs) right in record { hot = a.hot; is = ap (listed_from z) a.is; near = a.near; goes = a.goes }

  names_right : (more : Names) (ms : MScope) → ScopeRight f g ms → ScopeRight f g (with_names more ms)
  names_right more (mscope i a l w) h = h

  module _ (app : App) (σ τ : Store) (agree : StoresAgree f g app σ τ) where
    -- What is new

    fresh_same : (m : ℕ) (i : Inst) (a l : Names) (w : MPassed) → ScopeRight f g (mscope i a l w) → (q : Path) (b : t.Body) (hot : Hot) (st : State) → RightIn f g q 0 (fresh_body_as by_number app σ m (mscope i a l w) q b st).0
        → fresh_body app τ m (mscope i a l w) q b (to hot st) ≡ run_with f g hot (fresh_body_as by_number app σ m (mscope i a l w) q b st)
    fresh_same m i a l w s q b hot st right =
        let d = grow_components_as by_number m app σ in
        let e = grow_components m app τ in
        let same_parts = components_same f g hot once app σ τ agree m in
        body_same f g hot once app d e (grow_yields_as by_number app d w) (grow_yields app e w) same_parts (yields_same f g hot once app d e same_parts w s.1) i a w s.0 s.1 b l q 0 st right

    fresh_later : (m : ℕ) (ms : MScope) (q : Path) (b : t.Body) (st : State) → Later st (fresh_body_as by_number app σ m ms q b st).1
    fresh_later m ms q b st =
        let d = grow_components_as by_number m app σ in
        body_later app d (grow_yields_as by_number app d (passed_in ms)) (components_later m app σ) (yields_later app d (components_later m app σ) (passed_in ms)) b ms q 0 st

    -- in place of what goes
    flipped : (m : ℕ) (ms : MScope) → ScopeRight f g ms → (q : Path) (b : t.Body) (c : Id → ℕ) (hot : Hot) (st : State) → NearTo hot st → Unlisted c st
        → RightIn f g q 0 (or_comment (fresh_body_as by_number app σ m ms q b (dropped_as by_number c st))).lives
        → ArmRenewed c st (or_comment (fresh_body_as by_number app σ m ms q b (dropped_as by_number c st))) (or_comment (fresh_body app τ m ms q b (dropped c (to hot st))))
    flipped m (mscope i a l w) s q b c hot st h u right =
        let ms = mscope i a l w in
        let d = drop_step f g once apart n0 c c hot st u h in
        let st1 = dropped_as by_number c st in
        let n = fresh_body_as by_number app σ m ms q b st1 in
        let later = arm_later st1 n (fresh_later m ms q b st1) in
        record {
          hot = d.hot;
          is = ap (λ x. or_comment (fresh_body app τ m ms q b x)) d.is ∙ arm_same f g d.hot q n (fresh_body app τ m ms q b (to d.hot st1)) (λ r. fresh_same m i a l w s q b d.hot st1 r) right;
          near = near_later f g once apart n0 d.hot st1 (or_comment n).state d.near later;
          goes = goes_then f g once apart n0 c c (λ x. 0) st st1 (or_comment n).state (λ x. omega arith) d.goes (goes_later f g once apart n0 (λ x. 0) st1 (or_comment n).state later);
        }

    -- an item that is new
    new_item : (m : ℕ) (ms : MScope) → ScopeRight f g ms → (ns : List Text) (b : t.Body) (q : Path) (x : Entry) (hot : Hot) (st : State) → let h = fresh_items_as by_number app σ m ms ns b q x st in
        SpotRight f g q h.spot → RightIn f g q 0 h.arm.lives → fresh_items app τ m ms ns b q (entry_with f g x) (to hot st) ≡ grown_with f g hot h
    new_item m (mscope i a l w) s ns b q x hot st right inside =
        item_same f g hot (λ ms' q' st'. fresh_body_as by_number app σ m ms' q' b st') (λ ms' q' st'. fresh_body app τ m ms' q' b st') i a l w
        (λ l' q' st' r. fresh_same m i a l' w s q' b hot st' r) ns q x st right inside

    new_later : (m : ℕ) (ms : MScope) (ns : List Text) (b : t.Body) (q : Path) (x : Entry) (st : State) → Later st (fresh_items_as by_number app σ m ms ns b q x st).arm.state
    new_later m ms ns b q x st = item_later (λ ms' q' st'. fresh_body_as by_number app σ m ms' q' b st') (λ ms' q' st'. fresh_later m ms' q' b st') ms ns q x st

    -- a list that is new, in place of what goes
    new_list : (m : ℕ) (ms : MScope) → ScopeRight f g ms → (ns : List Text) (b : t.Body) (p : Path) (key : Text) (vs : Values Path) (c : Id → ℕ) (hot : Hot) (st : State) → NearTo hot st → Unlisted c st
        → RightItems f g p (grow_entries (fresh_items_as by_number app σ m ms ns b) p (entries key 0 [] vs) (dropped_as by_number c st)).0
        → Renewed Items c st (grow_entries (fresh_items_as by_number app σ m ms ns b) p (entries key 0 [] vs) (dropped_as by_number c st))
        (grow_entries (fresh_items app τ m ms ns b) p (entries key 0 [] (values_with f vs)) (dropped c (to hot st)))
    new_list m ms s ns b p key vs c hot st h u right =
        let d = drop_step f g once apart n0 c c hot st u h in
        let st1 = dropped_as by_number c st in
        let one = fresh_items_as by_number app σ m ms ns b in
        let other = fresh_items app τ m ms ns b in
        let xs = entries key 0 [] vs in
        let n = grow_entries one p xs st1 in
        let later = entries_later one (λ q x s'. new_later m ms ns b q x s') p xs st1 in
        record {
          hot = d.hot;
          is =
              ap₂ (λ ys x. grow_entries other p ys x) (entries_on f g key 0 [] vs) d.is
              ∙ entries_same f g d.hot one other (λ p' x s' r r'. new_item m ms s ns b (item x.key x.occurrence ∷ p') x d.hot s' r r') p xs st1 right;
          near = near_later f g once apart n0 d.hot st1 n.1 d.near later;
          goes = goes_then f g once apart n0 c c (λ x. 0) st st1 n.1 (λ x. omega arith) d.goes (goes_later f g once apart n0 (λ x. 0) st1 n.1 later);
        }

    -- Items, with the bodies of an `each` at a path

    module _ (m : ℕ) (c : t.Body) where
      -- what an old item is to be updated with, by paths
      abbrev turned : Handle → Handle
      turned h = record { spot = h.spot; comment = h.comment; lives = h.lives; go = λ ms q st. renew_body app τ m ms q 0 c h.lives st }

      turned_handles : (is : Items) → handles app τ m c is ≡ map turned (handles_as by_number app σ m c is)
      turned_handles Live.no_items = refl
      turned_handles (Live.item_live z k ls is) = ap (λ hs. record { spot = z; comment = k; lives = ls; go = λ ms q st. renew_body app τ m ms q 0 c ls st } ∷ hs) (turned_handles is)

      times_turned : (hs : List Handle) (q : Id) → times_handles q (map turned hs) ≡ times_handles q hs
      times_turned [] q = refl
      times_turned (h ∷ hs) q = ap (λ n. times_handle q h + n) (times_turned hs q)

      times_items_of : (is : Items) (q : Id) → times_handles q (handles_as by_number app σ m c is) ≡ times_items q is
      times_items_of Live.no_items q = refl
      times_items_of (Live.item_live z k ls is) q = ap (λ n. (occurs q (item_made z) + (times_in q ls + times_comment q k)) + n) (times_items_of is q)

      abbrev turned_option : Option (Handle × List Handle) → Option (Handle × List Handle)
      turned_option None = None
      turned_option (Some y) = Some (turned y.0, map turned y.1)

      front_turned : (h : Handle) (o : Option (Handle × List Handle)) → with_front (turned h) (turned_option o) ≡ turned_option (with_front h o)
      front_turned h None = refl
      front_turned h (Some y) = refl

      taken_turned : (x : Entry) (hs : List Handle) → taken (entry_with f g x) (map turned hs) ≡ turned_option (taken x hs)
      taken_turned x [] = refl
      taken_turned x (h ∷ hs) = ap (λ o. if is_of x h then Some (turned h, map turned hs) else with_front (turned h) o) (taken_turned x hs) ∙ by (is_of x h) where
        by : (b : Bool) → (if b then Some (turned h, map turned hs) else with_front (turned h) (turned_option (taken x hs))) ≡ turned_option (if b then Some (h, hs) else with_front h (taken x hs))
        by true = refl
        by false = front_turned h (taken x hs)

      module _ (ns : List Text) (ms : MScope) (s : ScopeRight f g ms) (p : Path) where
        -- what is to be done to an old item is the same by paths
        abbrev ItemGoes : Handle → Type 0
        ItemGoes h =
            (q : Path) (hot : Hot) (st : State) → q ≡ item h.spot.key h.spot.occurrence ∷ p → NearTo hot st → Owns (λ i. times_in i h.lives) st
            → let inside = with_names (item_names ns h.spot) ms in RightIn f g q 0 (h.go inside q st).0
            → Renewed Lives (λ i. times_in i h.lives) st (h.go inside q st) (renew_body app τ m inside q 0 c h.lives (to hot st))

        abbrev AllGo : List Handle → Type 0
        AllGo [] = Unit {0}
        AllGo (h ∷ hs) = ItemGoes h × AllGo hs

        abbrev TakenGoes : Entry → List Handle → Option (Handle × List Handle) → Type 0
        TakenGoes x hs None = Unit {0}
        TakenGoes x hs (Some k) = ((q : Id) → times_handles q hs ≡ times_handle q k.0 + times_handles q k.1) × (is_of x k.0 ≡ true) × ItemGoes k.0 × AllGo k.1

        front_goes : (x : Entry) (h : Handle) (hs : List Handle) (o : Option (Handle × List Handle)) → ItemGoes h → TakenGoes x hs o → TakenGoes x (h ∷ hs) (with_front h o)
        front_goes x h hs None k w = tt
        front_goes x h hs (Some y) k w = ((λ q. let e = w.0 q in omega (arith, e)), w.1, w.2, (k, w.3))

        taken_goes : (x : Entry) (hs : List Handle) → AllGo hs → TakenGoes x hs (taken x hs)
        taken_goes x [] w = tt
        taken_goes x (h ∷ hs) w = by (is_of x h) refl (front_goes x h hs (taken x hs) w.0 (taken_goes x hs w.1)) where
          by : (b : Bool) → is_of x h ≡ b → TakenGoes x (h ∷ hs) (with_front h (taken x hs)) → TakenGoes x (h ∷ hs) (if b then Some (h, hs) else with_front h (taken x hs))
          by true e k = ((λ q. refl), e, w.0, w.1)
          by false e k = k

        old_item : (x : Entry) (h : Handle) (hot : Hot) (st : State) → is_of x h ≡ true → ItemGoes h → NearTo hot st → Owns (λ i. times_handle i h) st
            → let q = item x.key x.occurrence ∷ p in let n = renew_item_as by_number ns ms q x h st in
            SpotRight f g (item h.spot.key h.spot.occurrence ∷ p) h.spot → RightIn f g (item h.spot.key h.spot.occurrence ∷ p) 0 n.arm.lives
            → ItemRenewed (λ i. times_handle i h) st n (renew_item ns ms q (entry_with f g x) (turned h) (to hot st))
        old_item x h hot st is goes near o right inside =
            let q = item x.key x.occurrence ∷ p in
            let same_key = same_means ⊥ no_owners no_owners-Decides x.key h.spot.key (both_left _ _ is) in
            let same_place = (Decides-eqb x.occurrence h.spot.occurrence).0 (both_right (same no_owners x.key h.spot.key) _ is) in
            let e : q ≡ item h.spot.key h.spot.occurrence ∷ p = ap₂ (λ a n. item a n ∷ p) same_key same_place in
            let c0 : Id → ℕ = λ i. 0 in
            let cl : Id → ℕ = λ i. times_in i h.lives in
            let ch : Id → ℕ = λ i. times_handle i h in
            let names = with_names (item_names ns h.spot) ms in
            let a = give_step f g once apart n0 c0 hot st h.spot.value (item_value q) x.value (low_ref ch st o h.spot.value (let i = hit_self (ref h.spot.value) in omega (arith, i))) (right.0 ∙ ap item_value (sym e)) near in
            let st1 = give h.spot.value (number h.spot.value) x.value st in
            let b = give_step f g once apart n0 c0 a.hot st1 h.spot.index (item_index q) (count_value x.index) (low_ref ch st o h.spot.index (let i = hit_self (ref h.spot.index) in omega (arith, i))) (right.1 ∙ ap item_index (sym e)) a.near in
            let st2 = give h.spot.index (number h.spot.index) (count_value x.index) st1 in
            let both = goes_then f g once apart n0 c0 c0 c0 st st1 st2 (λ i. omega arith) a.goes b.goes in
            let r = goes q b.hot st2 e b.near (own_next f g once apart n0 ch c0 cl st st2 (λ i. omega arith) o both) (subst (λ j. RightIn f g j 0 (h.go names q st2).0) (sym e) inside) in
            let done : Lives × State → ItemGrown = λ y. record { spot = h.spot; arm = record { comment = h.comment; lives = y.0; state = y.1 } } in
            record {
              hot = r.hot;
              is =
                  ap (λ z. done (renew_body app τ m names q 0 c h.lives (give h.spot.index (item_index q) (count_value x.index) z))) a.is
                  ∙ (ap (λ z. done (renew_body app τ m names q 0 c h.lives z)) b.is ∙ ap done r.is);
              near = r.near;
              goes = goes_then f g once apart n0 ch c0 cl st st2 (h.go names q st2).1 (λ i. omega arith) both r.goes;
            }

        abbrev one : Path → Entry → State → ItemGrown
        one = fresh_items_as by_number app σ m ms ns c

        abbrev other : Path → Entry → State → ItemGrown
        other = fresh_items app τ m ms ns c

        sync_renewed : (xs : List Entry) (olds : List Handle) (hot : Hot) (st : State) → NearTo hot st → Owns (λ q. times_handles q olds) st → AllGo olds
            → let n = sync_as by_number one ns ms p xs olds st in RightItems f g p n.0
            → Renewed Items (λ q. times_handles q olds) st n (sync other ns ms p (map (entry_with f g) xs) (map turned olds) (to hot st))
        sync_renewed [] olds hot st near o all right =
            let ca : Id → ℕ = λ q. times_handles q olds in
            let d = drop_step f g once apart n0 ca ca hot st o.lists near in
            record {
              hot = d.hot;
              is = ap (λ (u : Id → ℕ). (Live.no_items, dropped u (to hot st))) (λ i q. times_turned olds q i) ∙ ap (λ z. (Live.no_items, z)) d.is;
              near = d.near;
              goes = d.goes;
            }
        sync_renewed (x ∷ xs) olds hot st near o all right =
            let S : Option (Handle × List Handle) → Items × State = λ k.
            let h = sync_one other ns ms (item x.key x.occurrence ∷ p) (entry_with f g x) (map turned olds) k (to hot st) in
            let r = sync other ns ms p (map (entry_with f g) xs) h.1 h.0.arm.state in
            (Live.item_live h.0.spot h.0.arm.comment h.0.arm.lives r.0, r.1) in
            let h = by (taken x olds) (taken_goes x olds all) (λ olds' hot' st'. sync_renewed xs olds' hot' st') right in
            record { hot = h.hot; is = ap S (taken_turned x olds) ∙ h.is; near = h.near; goes = h.goes } where
              by : (k : Option (Handle × List Handle)) → TakenGoes x olds k
                  → ((olds : List Handle) (hot : Hot) (st : State) → NearTo hot st → Owns (λ q. times_handles q olds) st → AllGo olds
                  → let n = sync_as by_number one ns ms p xs olds st in RightItems f g p n.0
                  → Renewed Items (λ q. times_handles q olds) st n (sync other ns ms p (map (entry_with f g) xs) (map turned olds) (to hot st)))
                  → let h = sync_one_as by_number one ns ms (item x.key x.occurrence ∷ p) x olds k st in
                  let r = sync_as by_number one ns ms p xs h.1 h.0.arm.state in
                  RightItems f g p (Live.item_live h.0.spot h.0.arm.comment h.0.arm.lives r.0)
                  → let h' = sync_one other ns ms (item x.key x.occurrence ∷ p) (entry_with f g x) (map turned olds) (turned_option k) (to hot st) in
                  let r' = sync other ns ms p (map (entry_with f g) xs) h'.1 h'.0.arm.state in
                  Renewed Items (λ q. times_handles q olds) st (Live.item_live h.0.spot h.0.arm.comment h.0.arm.lives r.0, r.1) (Live.item_live h'.0.spot h'.0.arm.comment h'.0.arm.lives r'.0, r'.1)
              by None k rec right' =
                  let q = item x.key x.occurrence ∷ p in
                  let h = one q x st in
                  let later = new_later m ms ns c q x st in
                  let cr : Id → ℕ = λ i. times_handles i olds in
                  let c0 : Id → ℕ = λ i. 0 in
                  let goes = goes_later f g once apart n0 c0 st h.arm.state later in
                  let near1 = near_later f g once apart n0 hot st h.arm.state near later in
                  let z = rec olds hot h.arm.state near1 (own_next f g once apart n0 cr c0 cr st h.arm.state (λ i. omega arith) o goes) all right'.2 in
                  let r = sync_as by_number one ns ms p xs olds h.arm.state in
                  let done : ItemGrown → Items × State = λ y. let u = sync other ns ms p (map (entry_with f g) xs) (map turned olds) y.arm.state in (Live.item_live y.spot y.arm.comment y.arm.lives u.0, u.1) in
                  record {
                    hot = z.hot;
                    is = ap done (new_item m ms s ns c q x hot st right'.0 right'.1) ∙ ap (λ (u : Items × State). (Live.item_live h.spot h.arm.comment h.arm.lives u.0, u.1)) z.is;
                    near = z.near;
                    goes = goes_then f g once apart n0 cr c0 cr st h.arm.state r.1 (λ i. omega arith) goes z.goes;
                  }
              by (Some y) k rec right' =
                  let q = item x.key x.occurrence ∷ p in
                  let h = renew_item_as by_number ns ms q x y.0 st in
                  let co : Id → ℕ = λ i. times_handles i olds in
                  let ch : Id → ℕ = λ i. times_handle i y.0 in
                  let cr : Id → ℕ = λ i. times_handles i y.1 in
                  let le : (i : Id) → ch i + cr i ≤ co i = (λ i. let e = k.0 i in omega (arith, e)) in
                  let a = old_item x y.0 hot st k.1 k.2 near (own_part f g once apart n0 co ch st (λ i. let e = k.0 i in omega (arith, e)) o) right'.0 right'.1 in
                  let z = rec y.1 a.hot h.arm.state a.near (own_next f g once apart n0 co ch cr st h.arm.state le o a.goes) k.3 right'.2 in
                  let r = sync_as by_number one ns ms p xs y.1 h.arm.state in
                  let done : ItemGrown → Items × State = λ w. let u = sync other ns ms p (map (entry_with f g) xs) (map turned y.1) w.arm.state in (Live.item_live w.spot w.arm.comment w.arm.lives u.0, u.1) in
                  record {
                    hot = z.hot;
                    is = ap done a.is ∙ ap (λ (u : Items × State). (Live.item_live h.spot h.arm.comment h.arm.lives u.0, u.1)) z.is;
                    near = z.near;
                    goes = goes_then f g once apart n0 co ch cr st h.arm.state r.1 le a.goes z.goes;
                  }

    -- Statements, where the tree stands for what is rendered over some stores

    module _ (look : Id → Option Thing) (ρ ω : Store) where
      spot_low : (c : Id → ℕ) (st : State) → Owns c st → (z : Spot) → ((q : Id) → occurs q z.made ≤ c q) → 0 < occurs (ref z.ref) z.made → z.ref < n0
      spot_low c st o z le w = low_ref c st o z.ref (let i = le (ref z.ref) in omega (arith, i, w))

      attrs_low : (c : Id → ℕ) (st : State) → Owns c st → (made : List Id) (v : Scope) (ms : MScope) (ws : Scope → List (WrittenValue Scope)) (ns : List Text) (xs : List AttrSpot)
          → ((q : Id) → times_attrs q xs ≤ c q) → AttrsStand app ρ ω look made v ms ws ns xs → AttrsLow f g once apart n0 xs
      attrs_low c st o made v ms ws [] [] le h = tt
      attrs_low c st o made v ms ws (n ∷ ns) (x ∷ xs) le h =
          (spot_low c st o x.spot (λ q. let i = le q in omega (arith, i)) h.1.own, attrs_low c st o made v ms ws ns xs (λ q. let i = le q in omega (arith, i)) h.2)
      attrs_low c st o made v ms ws _ _ le h = absurd h

      mods_low : (c : Id → ℕ) (st : State) → Owns c st → (made : List Id) (n : ℕ) (v : Scope) (ms : MScope) (ws : Scope → List (WrittenModifier Scope)) (i : ℕ) (ds : List (WrittenModifier Scope)) (zs : List ModSpot)
          → ((q : Id) → times_mods q zs ≤ c q) → ModsStand app ρ ω look made n v ms ws i ds zs → ModsLow f g once apart n0 zs
      mods_low c st o made n v ms ws i [] [] le h = tt
      mods_low c st o made n v ms ws i (d ∷ ds) (z ∷ zs) le h =
          (spot_low c st o z.spot (λ q. let i = le q in omega (arith, i)) h.3.own, mods_low c st o made n v ms _ (suc i) ds zs (λ q. let i = le q in omega (arith, i)) h.4)
      mods_low c st o made n v ms ws i _ _ le h = absurd h

      -- a block that was passed goes on
      block_renewed : (o : Option Block) (p : Path) (a : Id → ℕ) (F G : Block → State → Lives × State) (P : Block → Type 0) (ls : Lives) (hot : Hot) (st : State) → NearTo hot st
          → ((b : Block) → P b → RightIn f g p 0 (F b st).0 → Renewed Lives a st (F b st) (G b (to hot st)))
          → WhereBlock o P (ls ≡ Live.no_lives) → RightIn f g p 0 (where_block o (λ b. F b st) (ls, st)).0
          → Renewed Lives a st (where_block o (λ b. F b st) (ls, st)) (where_block o (λ b. G b (to hot st)) (ls, to hot st))
      block_renewed None p a F G P ls hot st near k h right = kept_all Lives a hot st ls near
      block_renewed (Some b) p a F G P ls hot st near k h right = k b h right

      mutual
        pub stmt_renewed : (m b : ℕ) (v : Scope) (ms : MScope) (p : Path) (x : t.Stmt) (l : Live) (hot : Hot) (st : State) → Stands app ρ ω look m b v ms p x l → ScopeRight f g ms → NearTo hot st → Owns (λ q. times q l) st
            → let n = renew_as by_number app σ m ms p x l st in Right f g p n.0 → Renewed Live (λ q. times q l) st n (renew app τ m ms p x l (to hot st))
        stmt_renewed m b v ms p (t.text_stmt z) (Live.still n) hot st h s near o right = kept_all Live _ hot st (Live.still n) near
        stmt_renewed m b v ms p (t.comment_stmt z) (Live.still n) hot st h s near o right = kept_all Live _ hot st (Live.still n) near
        stmt_renewed m b v ms p (t.put e) (Live.put_live n z) hot st h s near o right =
            let c : Id → ℕ = λ q. times q (Live.put_live n z) in
            let r = text_step f g once apart n0 c hot st n z.ref (spot_low c st o z (λ q. omega arith) h.1.own) near in
            record { hot = r.hot; is = ap (λ y. (Live.put_live n z, y)) r.is; near = r.near; goes = r.goes }
        stmt_renewed m b v ms p (t.element tag ps c) (Live.element_live n made xs zs ls) hot st h s near o right =
            let whole : Id → ℕ = λ q. times q (Live.element_live n made xs zs ls) in
            let ca : Id → ℕ = λ q. times_attrs q xs in
            let cl : Id → ℕ = λ q. times_in q ls in
            let cm : Id → ℕ = λ q. times_mods q zs in
            let cr : Id → ℕ = λ q. cl q + cm q in
            let st1 = renew_attrs n xs st in
            let a = attrs_step f g once apart n0 hot st n xs (attrs_low whole st o made v ms (attrs_by ps) _ xs (λ q. omega arith) h.1) near in
            let o1 = own_next f g once apart n0 whole ca cr st st1 (λ q. omega arith) o a.goes in
            let r = renew_body_as by_number app σ m ms p 0 c ls st1 in
            let y = body_renewed m b v ms p 0 c ls a.hot st1 h.3 s a.near (own_part f g once apart n0 cr cl st1 (λ q. omega arith) o1) right in
            let z = mods_step f g once apart n0 y.hot r.1 zs (mods_low whole st o made n v ms (mods_by ps) 0 _ zs (λ q. omega arith) h.2) y.near in
            record {
              hot = z.hot;
              is =
                  ap (λ u. let r' = renew_body app τ m ms p 0 c ls u in (Live.element_live n made xs zs r'.0, renew_mods zs r'.1)) a.is
                  ∙ (ap (λ (r' : Lives × State). (Live.element_live n made xs zs r'.0, renew_mods zs r'.1)) y.is ∙ ap (λ u. (Live.element_live n made xs zs r.0, u)) z.is);
              near = z.near;
              goes =
                  goes_then f g once apart n0 whole ca cr st st1 (renew_mods zs r.1) (λ q. omega arith) a.goes
                  (goes_then f g once apart n0 cr cl cm st1 r.1 (renew_mods zs r.1) (λ q. omega arith) y.goes z.goes);
            }
        stmt_renewed m b v ms p (t.if_stmt e unless c d) (Live.branch_live z true k ls) hot st h s near o right =
            let whole : Id → ℕ = λ q. times q (Live.branch_live z true k ls) in
            let cz : Id → ℕ = λ q. occurs q z.made in
            let ca : Id → ℕ = λ q. times_in q ls + times_comment q k in
            let cl : Id → ℕ = λ q. times_in q ls in
            let st1 = reread z.ref st in
            let a = reread_step f g once apart n0 cz hot st z.ref (spot_low whole st o z (λ q. omega arith) h.0.own) near in
            let o1 = own_next f g once apart n0 whole cz ca st st1 (λ q. omega arith) o a.goes in
            let kept : State → Arm = λ y. (let r = renew_body app τ m ms (main ∷ p) 0 c ls y in record { comment = k; lives = r.0; state = r.1 }) in
            let new : State → Arm = λ y. or_comment (fresh_body app τ m ms (otherwise ∷ p) d (dropped ca y)) in
            let r = renew_body_as by_number app σ m ms (main ∷ p) 0 c ls st1 in
            let kept_n : Arm = record { comment = k; lives = r.0; state = r.1 } in
            let new_n = or_comment (fresh_body_as by_number app σ m ms (otherwise ∷ p) d (dropped_as by_number ca st1)) in
            let P : State → Live × State = λ y. cond {A = Live × State} (takes_first unless (first_value (spot_pairs y z.ref))) (branch_from z true (kept y)) (branch_from z false (new y)) in
            let u = takes_first unless (first_value (spot_pairs st1 z.ref)) in
            after_step Live whole cz ca st st1 (reread z.ref (to hot st)) (λ q. omega arith) a P (cond {A = Live × State} u (branch_from z true kept_n) (branch_from z false new_n))
            (from_same Live ca st1 _ (cond {A = Live × State} u (branch_from z true (kept (to a.hot st1))) (branch_from z false (new (to a.hot st1)))) (P (to a.hot st1))
            (ap (λ w. cond {A = Live × State} w (branch_from z true (kept (to a.hot st1))) (branch_from z false (new (to a.hot st1)))) (takes_same a.hot st1 unless z.ref))
            (branch_renewed u z p ca st1 kept_n new_n (kept (to a.hot st1)) (new (to a.hot st1))
            (λ i. kept_arm k ca cl st1 r (renew_body app τ m ms (main ∷ p) 0 c ls (to a.hot st1)) (λ q. omega arith)
            (body_renewed m b v ms (main ∷ p) 0 c ls a.hot st1 h.3 s a.near (own_part f g once apart n0 ca cl st1 (λ q. omega arith) o1) i))
            (λ i. flipped m ms s (otherwise ∷ p) d ca a.hot st1 a.near o1.lists i) right))
        stmt_renewed m b v ms p (t.if_stmt e unless c d) (Live.branch_live z false k ls) hot st h s near o right =
            let whole : Id → ℕ = λ q. times q (Live.branch_live z false k ls) in
            let cz : Id → ℕ = λ q. occurs q z.made in
            let ca : Id → ℕ = λ q. times_in q ls + times_comment q k in
            let cl : Id → ℕ = λ q. times_in q ls in
            let st1 = reread z.ref st in
            let a = reread_step f g once apart n0 cz hot st z.ref (spot_low whole st o z (λ q. omega arith) h.0.own) near in
            let o1 = own_next f g once apart n0 whole cz ca st st1 (λ q. omega arith) o a.goes in
            let kept : State → Arm = λ y. (let r = renew_body app τ m ms (otherwise ∷ p) 0 d ls y in record { comment = k; lives = r.0; state = r.1 }) in
            let new : State → Arm = λ y. or_comment (fresh_body app τ m ms (main ∷ p) c (dropped ca y)) in
            let r = renew_body_as by_number app σ m ms (otherwise ∷ p) 0 d ls st1 in
            let kept_n : Arm = record { comment = k; lives = r.0; state = r.1 } in
            let new_n = or_comment (fresh_body_as by_number app σ m ms (main ∷ p) c (dropped_as by_number ca st1)) in
            let P : State → Live × State = λ y. cond {A = Live × State} (takes_first unless (first_value (spot_pairs y z.ref))) (branch_from z true (new y)) (branch_from z false (kept y)) in
            let u = takes_first unless (first_value (spot_pairs st1 z.ref)) in
            after_step Live whole cz ca st st1 (reread z.ref (to hot st)) (λ q. omega arith) a P (cond {A = Live × State} u (branch_from z true new_n) (branch_from z false kept_n))
            (from_same Live ca st1 _ (cond {A = Live × State} u (branch_from z true (new (to a.hot st1))) (branch_from z false (kept (to a.hot st1)))) (P (to a.hot st1))
            (ap (λ w. cond {A = Live × State} w (branch_from z true (new (to a.hot st1))) (branch_from z false (kept (to a.hot st1)))) (takes_same a.hot st1 unless z.ref))
            (branch_renewed u z p ca st1 new_n kept_n (new (to a.hot st1)) (kept (to a.hot st1))
            (λ i. flipped m ms s (main ∷ p) c ca a.hot st1 a.near o1.lists i)
            (λ i. kept_arm k ca cl st1 r (renew_body app τ m ms (otherwise ∷ p) 0 d ls (to a.hot st1)) (λ q. omega arith)
            (body_renewed m b v ms (otherwise ∷ p) 0 d ls a.hot st1 h.3 s a.near (own_part f g once apart n0 ca cl st1 (λ q. omega arith) o1) i)) right))
        stmt_renewed m b v ms p (t.each e key ns c d) (Live.listed z is) hot st h s near o right =
            let whole : Id → ℕ = λ q. times q (Live.listed z is) in
            let cz : Id → ℕ = λ q. occurs q z.made in
            let ca : Id → ℕ = λ q. times_items q is in
            let hs = handles_as by_number app σ m c is in
            let ch : Id → ℕ = λ q. times_handles q hs in
            let st1 = reread z.ref st in
            let a = reread_step f g once apart n0 cz hot st z.ref (spot_low whole st o z (λ q. omega arith) h.0.own) near in
            let o1 = own_next f g once apart n0 whole cz ca st st1 (λ q. omega arith) o a.goes in
            let oh = own_part f g once apart n0 ca ch st1 (λ q. let i = times_items_of m c is q in omega (arith, i)) o1 in
            let all = where_list (AllGo m c ns ms s (items ∷ p) hs) _ (ListStands app ρ ω look m b v ms p key ns c is) (λ us i. items_go m b v ms s (items ∷ p) ns c (entries key 0 [] us) is i) h.1 in
            let F : Values Path → Items × State = λ vs. sync_as by_number (fresh_items_as by_number app σ m ms ns c) ns ms (items ∷ p) (entries key 0 [] vs) hs st1 in
            let G : State → Values Path → Items × State = λ y vs. sync (fresh_items app τ m ms ns c) ns ms (items ∷ p) (entries key 0 [] vs) (handles app τ m c is) y in
            let new : State → Arm = λ y. or_comment (fresh_body app τ m ms (otherwise ∷ p) d (dropped ca y)) in
            let new_n = or_comment (fresh_body_as by_number app σ m ms (otherwise ∷ p) d (dropped_as by_number ca st1)) in
            let P : State → Live × State = λ y. where_values (values_listed (first_value (spot_pairs y z.ref))) (λ vs. listed_from z (G y vs)) (unlisted_from z (new y)) in
            let vs = values_listed (first_value (spot_pairs st1 z.ref)) in
            let y = to a.hot st1 in
            after_step Live whole cz ca st st1 (reread z.ref (to hot st)) (λ q. omega arith) a P (where_values vs (λ us. listed_from z (F us)) (unlisted_from z new_n))
            (from_same Live ca st1 _ (where_values (values_with f vs) (λ us. listed_from z (G y us)) (unlisted_from z (new y))) (P y)
            (ap (λ us. where_values us (λ ws. listed_from z (G y ws)) (unlisted_from z (new y))) (listed_same a.hot st1 z.ref))
            (list_renewed vs z p ca st1 F (G y) new_n (new y)
            (λ us i. from_same Items ca st1 (F us) _ (G y (values_with f us))
            (ap₂ (λ es ks. sync (fresh_items app τ m ms ns c) ns ms (items ∷ p) es ks y) (entries_on f g key 0 [] us) (turned_handles m c is))
            (let r = sync_renewed m c ns ms s (items ∷ p) (entries key 0 [] us) hs a.hot st1 a.near oh all i in
            record { hot = r.hot; is = r.is; near = r.near; goes = goes_more f g once apart n0 ca ch st1 (F us).1 (λ q. let j = times_items_of m c is q in omega (arith, j)) r.goes }))
            (λ i. flipped m ms s (otherwise ∷ p) d ca a.hot st1 a.near o1.lists i) right))
        stmt_renewed m b v ms p (t.each e key ns c d) (Live.unlisted z k ls) hot st h s near o right =
            let whole : Id → ℕ = λ q. times q (Live.unlisted z k ls) in
            let cz : Id → ℕ = λ q. occurs q z.made in
            let ca : Id → ℕ = λ q. times_in q ls + times_comment q k in
            let cl : Id → ℕ = λ q. times_in q ls in
            let st1 = reread z.ref st in
            let a = reread_step f g once apart n0 cz hot st z.ref (spot_low whole st o z (λ q. omega arith) h.0.own) near in
            let o1 = own_next f g once apart n0 whole cz ca st st1 (λ q. omega arith) o a.goes in
            let inside = where_else (StandIn app ρ ω look m b v ms (otherwise ∷ p) 0 d ls) _ (ElseStands app ρ ω look m b v ms p d k ls) (λ i. i.1) h.1 in
            let F : Values Path → Items × State = λ vs. grow_entries (fresh_items_as by_number app σ m ms ns c) (items ∷ p) (entries key 0 [] vs) (dropped_as by_number ca st1) in
            let G : State → Values Path → Items × State = λ y vs. grow_entries (fresh_items app τ m ms ns c) (items ∷ p) (entries key 0 [] vs) (dropped ca y) in
            let kept : State → Arm = λ y. (let r = renew_body app τ m ms (otherwise ∷ p) 0 d ls y in record { comment = k; lives = r.0; state = r.1 }) in
            let r = renew_body_as by_number app σ m ms (otherwise ∷ p) 0 d ls st1 in
            let kept_n : Arm = record { comment = k; lives = r.0; state = r.1 } in
            let P : State → Live × State = λ y. where_values (values_listed (first_value (spot_pairs y z.ref))) (λ vs. listed_from z (G y vs)) (unlisted_from z (kept y)) in
            let vs = values_listed (first_value (spot_pairs st1 z.ref)) in
            let y = to a.hot st1 in
            after_step Live whole cz ca st st1 (reread z.ref (to hot st)) (λ q. omega arith) a P (where_values vs (λ us. listed_from z (F us)) (unlisted_from z kept_n))
            (from_same Live ca st1 _ (where_values (values_with f vs) (λ us. listed_from z (G y us)) (unlisted_from z (kept y))) (P y)
            (ap (λ us. where_values us (λ ws. listed_from z (G y ws)) (unlisted_from z (kept y))) (listed_same a.hot st1 z.ref))
            (list_renewed vs z p ca st1 F (G y) kept_n (kept y)
            (λ us i. new_list m ms s ns c (items ∷ p) key us ca a.hot st1 a.near o1.lists i)
            (λ i. kept_arm k ca cl st1 r (renew_body app τ m ms (otherwise ∷ p) 0 d ls y) (λ q. omega arith)
            (body_renewed m b v ms (otherwise ∷ p) 0 d ls a.hot st1 inside s a.near (own_part f g once apart n0 ca cl st1 (λ q. omega arith) o1) i)) right))
        stmt_renewed m b v ms p (t.let_stmt es ns c) (Live.let_live made rs ls) hot st h s near o right =
            let whole : Id → ℕ = λ q. times q (Live.let_live made rs ls) in
            let cl : Id → ℕ = λ q. times_in q ls in
            let inside = with_names (named_as ns rs) ms in
            within Lives Live whole cl st (renew_body_as by_number app σ m inside (main ∷ p) 0 c ls st) (renew_body app τ m inside (main ∷ p) 0 c ls (to hot st)) (λ q. omega arith) (λ u. Live.let_live made rs u)
            (body_renewed m _ _ inside (main ∷ p) 0 c ls hot st h.3 (names_right (named_as ns rs) ms s) near (own_part f g once apart n0 whole cl st (λ q. omega arith) o) right)
        stmt_renewed (suc m) b v ms p (t.component_stmt c ps given bs) (Live.component_live i made gm args (Some k) ls) hot st h s near o right =
            let whole : Id → ℕ = λ q. times q (Live.component_live i made gm args (Some k) ls) in
            let cl : Id → ℕ = λ q. times_in q ls in
            let q = into c ∷ p in
            let inside = mscope i args [] (mpassed k ps bs ms) in
            let n = renew_body_as by_number app σ m inside q 0 (class_at app q).template ls st in
            within Lives Live whole cl st n (renew_body app τ m inside q 0 (class_at app q).template ls (to hot st)) (λ j. omega arith) (λ u. Live.component_live i made gm args (Some k) u)
            (body_renewed m _ _ inside q 0 (class_at app q).template ls hot st h.7 (right.0, s) near (own_part f g once apart n0 whole cl st (λ j. omega arith) o) (subst (λ j. RightIn f g j 0 n.0) h.2 right.2))
        stmt_renewed zero b v ms p (t.component_stmt c ps given bs) (Live.deep_live q) hot st h s near o right = kept_all Live _ hot st (Live.deep_live q) near
        stmt_renewed m b v (mscope i a l mnothing) p (t.yield es n) (Live.yield_live k made rs ls) hot st h s near o right = kept_all Live _ hot st (Live.yield_live k made rs ls) near
        stmt_renewed m b v (mscope i a l (mpassed kb ps bs ms)) p (t.yield es n) (Live.yield_live k made rs ls) hot st h s near o right =
            let whole : Id → ℕ = λ q. times q (Live.yield_live k made rs ls) in
            let cl : Id → ℕ = λ q. times_in q ls in
            let q = slot n ∷ p in
            let F : Block → State → Lives × State = λ c y. renew_body_as by_number app σ m (with_names (named_as c.params rs) ms) q 0 c.body ls y in
            let G : Block → State → Lives × State = λ c y. renew_body app τ m (with_names (named_as c.params rs) ms) q 0 c.body ls y in
            within Lives Live whole cl st (where_block (block_named n bs) (λ c. F c st) (ls, st)) (where_block (block_named n bs) (λ c. G c (to hot st)) (ls, to hot st)) (λ j. omega arith) (λ u. Live.yield_live k made rs u)
            (block_renewed (block_named n bs) q cl F G (BlockStands app ρ ω look m b v (mscope i a l (mpassed kb ps bs ms)) p es n made rs ls) ls hot st near
            (λ c j r. body_renewed m _ _ (with_names (named_as c.params rs) ms) q 0 c.body ls hot st j.3 (names_right (named_as c.params rs) ms s.1) near (own_part f g once apart n0 whole cl st (λ x. omega arith) o) r) h.1
            (subst (λ j. RightIn f g (slot j ∷ p) 0 (where_block (block_named n bs) (λ c. F c st) (ls, st)).0) h.0 right))
        stmt_renewed m b v ms p _ _ hot st h s near o right = absurd h

        pub body_renewed : (m b : ℕ) (v : Scope) (ms : MScope) (p : Path) (i : ℕ) (c : t.Body) (ls : Lives) (hot : Hot) (st : State) → StandIn app ρ ω look m b v ms p i c ls → ScopeRight f g ms → NearTo hot st → Owns (λ q. times_in q ls) st
            → let n = renew_body_as by_number app σ m ms p i c ls st in RightIn f g p i n.0 → Renewed Lives (λ q. times_in q ls) st n (renew_body app τ m ms p i c ls (to hot st))
        body_renewed m b v ms p i t.end Live.no_lives hot st h s near o right = kept_all Lives _ hot st Live.no_lives near
        body_renewed m b v ms p i (t.stmt x c) (Live.live_and l ls) hot st h s near o right =
            let whole : Id → ℕ = λ q. times_in q (Live.live_and l ls) in
            let ca : Id → ℕ = λ q. times q l in
            let cb : Id → ℕ = λ q. times_in q ls in
            let r = renew_as by_number app σ m ms (at i ∷ p) x l st in
            let a = stmt_renewed m b v ms (at i ∷ p) x l hot st h.0 s near (own_part f g once apart n0 whole ca st (λ q. omega arith) o) right.0 in
            let z = body_renewed m b v ms p (suc i) c ls a.hot r.1 h.1 s a.near (own_next f g once apart n0 whole ca cb st r.1 (λ q. omega arith) o a.goes) right.1 in
            let n = renew_body_as by_number app σ m ms p (suc i) c ls r.1 in
            record {
              hot = z.hot;
              is = ap (λ (r' : Live × State). let y = renew_body app τ m ms p (suc i) c ls r'.1 in (Live.live_and r'.0 y.0, y.1)) a.is ∙ ap (λ (y : Lives × State). (Live.live_and r.0 y.0, y.1)) z.is;
              near = z.near;
              goes = goes_then f g once apart n0 whole ca cb st r.1 n.1 (λ q. omega arith) a.goes z.goes;
            }
        body_renewed m b v ms p i _ _ hot st h s near o right = absurd h

        -- the items of the list at p
        items_go : (m b : ℕ) (v : Scope) (ms : MScope) (s : ScopeRight f g ms) (p : Path) (ns : List Text) (c : t.Body) (xs : List Entry) (is : Items) → ItemsStand app ρ ω look m b v ms p ns c xs is
            → AllGo m c ns ms s p (handles_as by_number app σ m c is)
        items_go m b v ms s p ns c [] Live.no_items h = tt
        items_go m b v ms s p ns c (x ∷ xs) (Live.item_live z k ls is) h =
            let inside = with_names (item_names ns z) ms in (
              (λ q hot st e near o right.
                  let e' : q ≡ item x.key x.occurrence ∷ p = e ∙ ap₂ (λ a n. item a n ∷ p) h.0.0 h.0.1 in
                  body_renewed m _ _ inside q 0 c ls hot st (subst (λ j. StandIn app ρ ω look m (max b (top (item_made z))) (with_locals (bind ns (entry_pairs (item x.key x.occurrence ∷ p) x)) v) inside j 0 c ls) (sym e') h.4)
                  (names_right (item_names ns z) ms s) near o right),
              items_go m b v ms s p ns c xs is h.5,
            )
        items_go m b v ms s p ns c _ _ h = absurd h

      pub root_renewed : (m : ℕ) (l : Live) (hot : Hot) (st : State) → RootStands app ρ ω look m l → NearTo hot st → Owns (λ q. times q l) st
          → let n = renew_root_as by_number m app σ l st in Right f g [] n.0 → Renewed Live (λ q. times q l) st n (renew_root m app τ l (to hot st))
      root_renewed (suc m) (Live.component_live i made gm args None ls) hot st h near o right =
          let whole : Id → ℕ = λ q. times q (Live.component_live i made gm args None ls) in
          let cl : Id → ℕ = λ q. times_in q ls in
          let inside = mscope i args [] mnothing in
          let n = renew_body_as by_number app σ m inside [] 0 (class_at app []).template ls st in
          within Lives Live whole cl st n (renew_body app τ m inside [] 0 (class_at app []).template ls (to hot st)) (λ j. omega arith) (λ u. Live.component_live i made gm args None u)
          (body_renewed m _ no_place inside [] 0 (class_at app []).template ls hot st h.5 (right.0, tt) near (own_part f g once apart n0 whole cl st (λ j. omega arith) o) (subst (λ j. RightIn f g j 0 n.0) h.1 right.2))
      root_renewed zero (Live.deep_live q) hot st h near o right = kept_all Live _ hot st (Live.deep_live q) near
      root_renewed _ _ hot st h near o right = absurd h

-- the same turn by both, and what it leaves is numbered
pub updated_whole : (f : Path → Path) (g : Source → Source) (touched : Source → Bool) → IsOneToOne f → AreApart g → (app : App) (σ τ : Store) → StoresAgree f g app σ τ
    → (ρ ω : Store) (st : State) (l : Live) → StandsFor app ρ ω (state_with f g touched st) l
    → IsNumbered (st.next a_ref) st.look → TouchedAlike g (st.next a_ref) touched st.touched → Unlisted (λ q. times q l) st
    → let r = renew_app_as by_number app σ l st in let z = renew_app app τ l (state_with f g touched st) in
    Right f g [] r.0 → (z ≡ run_with f g z.1.touched r) × TouchedAlike g (st.next a_ref) z.1.touched r.1.touched × Whole r.1
updated_whole f g touched once apart app σ τ agree ρ ω st l h rows warm free right =
    let n0 = st.next a_ref in
    let o : Own f g once apart n0 (λ q. times q l) st = record { single = h.owned.once; old = h.owned.old; low = λ r le. h.owned.old (ref r) le; lists = free } in
    let y = root_renewed f g once apart n0 app σ τ agree (state_with f g touched st).look ρ ω app.limit l touched st h.stands (record { next = omega arith; rows = λ r lt. (rows.0 r, rows.1 r); warm = warm; whole = rows.1 }) o right in
    let r = renew_app_as by_number app σ l st in
    let e : (renew_app app τ l (state_with f g touched st)).1.touched ≡ y.hot = ap (λ (x : Live × State). x.1.touched) y.is in
    (y.is ∙ ap (λ t. run_with f g t r) (sym e), (λ k lt. ap (λ (t : Hot). t (g (number k))) e ∙ y.near.warm k lt), y.near.whole)

pub updated_renamed : UpdatedRenamed
updated_renamed f g touched once apart app σ τ agree ρ ω st l h rows warm free right =
    let y = updated_whole f g touched once apart app σ τ agree ρ ω st l h rows warm free right in (y.0, y.1)
