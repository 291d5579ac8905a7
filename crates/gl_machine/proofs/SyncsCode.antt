-- Lists: the items that the recorded program keeps, takes from the old ones by key, or appends.
use Rattle.std.proofs.Common.{◌≡◌, ℕ, ◌+◌, List, [], ◌∷◌, map, Bool, true, false, ◌&&◌, cond, if◌then◌else◌, Option, Some, None, option_map, refl, sym, ◌∙◌, ap, subst}
use Rattle.std.specs.Prelude.{nat_eq}
use mathlib.Core.Path.{fun_ext}
use Rattle.std.proofs.lemmas.Bool.{eqb-true}
use Rattle.gl_base.specs.Texts.{Text}
use Rattle.gl_value.specs.Value.{same, count_value}
use Rattle.gl_ast.specs.Template.{Body}
use Rattle.gl_meaning.specs.Path.{item, Path, no_owners}
use Rattle.gl_meaning.specs.Eval.{Store}
use Rattle.gl_meaning.specs.Render.{Entry}
use Rattle.gl_meaning.proofs.Equal.{same_means, no_owners-Decides, both_left, both_right}
use Rattle.gl_plain.specs.Ids.{a_node, Id, occurs}
use Rattle.gl_plain.specs.State.{MScope, named_as, with_names, comment_content, State}
use Rattle.gl_plain.specs.Naming.{Naming, dropped_as}
use Rattle.gl_plain.specs.Live.{ItemSpot, item_made, Items, no_items, item_live, Lives, have_node, are_deep, items_deep, times_in, times_comment}
use Rattle.gl_plain.specs.Grow.{made_node, Arm, or_comment, ItemGrown, grow_entries}
use Rattle.gl_plain.specs.Renew.{give, Handle, times_handles, with_front, taken, renew_item_as, sync_one_as, sync_as, renew_body_as}
use Rattle.gl_machine.specs.Sight.{Passing}
use Rattle.gl_machine.specs.Code.{ItemCodes, no_item_codes, items_of, Codes, lives_of}
use Rattle.gl_machine.specs.Outcome.{Outcome, ok, deep, lost, on_ok}
use Rattle.gl_machine.specs.RenewCode.{Runs, CodeArm, commented, kept, ItemDone, item_done, CodeHandle, times_code_handles, with_code_front, taken_code, renew_item_code_as, with_left, sync_one_code_as, item_with, sync_codes_as, fresh_codes, renew_codes_as}
use Rattle.gl_machine.specs.Env.{Env}
use Rattle.gl_machine.specs.Placed.{PlacedIn, PlacedItems, Follows, FollowsIn, RunsRight_as}
use Rattle.gl_machine.proofs.Following.{either, or_first, or_second, or_none}

module _ (naming : Naming) (env : Env) (store : Store) (run : Runs) (runs : RunsRight_as naming env store run)
    (m c : ℕ) (ms : MScope) (w : Passing) (pp : Path) (ns : List Text) (a : Body) where
  abbrev pub inner : ItemSpot → MScope
  inner s = with_names (named_as ns s.params) ms

  abbrev pub PlacedItem : ItemSpot → Codes → Type 0
  PlacedItem s cs = PlacedIn env c (inner s) w (item s.key s.occurrence ∷ pp) 0 a cs

  abbrev pub bare : ItemDone → ItemGrown
  bare d = record { spot = d.spot; arm = record { comment = d.arm.comment; lives = lives_of d.arm.codes; state = d.arm.state } }

  abbrev pub FollowsItem : Outcome ItemDone → ItemGrown → Type 0
  FollowsItem (ok d) g = (bare d ≡ g) × (are_deep g.arm.lives ≡ false) × PlacedItem d.spot d.arm.codes
  FollowsItem deep g = are_deep g.arm.lives ≡ true
  FollowsItem lost g = Unit {0}

  pub fresh_follows : (s : ItemSpot) (o : Outcome (Codes × State)) (r : Lives × State) → FollowsIn (PlacedItem s) o r
      → FollowsItem (on_ok o (λ r. ok (item_done s (commented r)))) (record { spot = s; arm = or_comment r })
  fresh_follows s lost r h = record {}
  fresh_follows s deep r h =
      either (have_node r.0)
      (λ t. are_deep (cond {A = Arm} t (record { comment = None; lives = r.0; state = r.1 }) (record { comment = Some (r.1.next a_node); lives = r.0; state = made_node (comment_content []) r.1 })).lives ≡ true) h h
  fresh_follows s (ok x) r (is, fine, placed) =
      let fine' = subst (λ y. are_deep y.0 ≡ false) (sym is) fine in
      subst (λ y. FollowsItem (ok (item_done s (commented x))) (record { spot = s; arm = or_comment y })) is
      (either (have_node (lives_of x.0))
      (λ t. FollowsItem
      (ok (item_done s (cond {A = CodeArm} t (record { comment = None; codes = x.0; state = x.1 }) (record { comment = Some (x.1.next a_node); codes = x.0; state = made_node (comment_content []) x.1 }))))
      (record { spot = s; arm = cond {A = Arm} t (record { comment = None; lives = lives_of x.0; state = x.1 }) (record { comment = Some (x.1.next a_node); lives = lives_of x.0; state = made_node (comment_content []) x.1 }) }))
      (refl, fine', placed) (refl, fine', placed))

  -- an item that was rendered, with the law of its body
  pub record Elem : Type 0 where
    pub spot : ItemSpot
    pub comment : Option ℕ
    pub codes : Codes
    pub goes : (st : State) → FollowsIn (PlacedItem spot) (renew_codes_as naming run m (item spot.key spot.occurrence ∷ pp) 0 codes st)
        (renew_body_as naming env.app store m (inner spot) (item spot.key spot.occurrence ∷ pp) 0 a (lives_of codes) st)

  abbrev pub code_of : Elem → CodeHandle
  code_of h = record { spot = h.spot; comment = h.comment; codes = h.codes; go = λ q st. renew_codes_as naming run m q 0 h.codes st }

  abbrev pub tree_of : Elem → Handle
  tree_of h = record { spot = h.spot; comment = h.comment; lives = lives_of h.codes; go = λ ms' q st. renew_body_as naming env.app store m ms' q 0 a (lives_of h.codes) st }

  abbrev is_elem : Entry → Elem → Bool
  is_elem x h = same no_owners x.key h.spot.key && nat_eq x.occurrence h.spot.occurrence

  abbrev front : Elem → Option (Elem × List Elem) → Option (Elem × List Elem)
  front h None = None
  front h (Some p) = Some (p.0, h ∷ p.1)

  abbrev taken_elem : Entry → List Elem → Option (Elem × List Elem)
  taken_elem x [] = None
  taken_elem x (h ∷ hs) = if is_elem x h then Some (h, hs) else front h (taken_elem x hs)

  abbrev codes_of : Elem × List Elem → CodeHandle × List CodeHandle
  codes_of p = (code_of p.0, map code_of p.1)

  abbrev trees_of : Elem × List Elem → Handle × List Handle
  trees_of p = (tree_of p.0, map tree_of p.1)

  code_front : (h : Elem) (o : Option (Elem × List Elem)) → with_code_front (code_of h) (option_map codes_of o) ≡ option_map codes_of (front h o)
  code_front h None = refl
  code_front h (Some p) = refl

  tree_front : (h : Elem) (o : Option (Elem × List Elem)) → with_front (tree_of h) (option_map trees_of o) ≡ option_map trees_of (front h o)
  tree_front h None = refl
  tree_front h (Some p) = refl

  codes_taken : (x : Entry) (hs : List Elem) → taken_code x (map code_of hs) ≡ option_map codes_of (taken_elem x hs)
  codes_taken x [] = refl
  codes_taken x (h ∷ hs) =
      either (is_elem x h)
      (λ t. cond t (Some (code_of h, map code_of hs)) (with_code_front (code_of h) (taken_code x (map code_of hs))) ≡ option_map codes_of (cond t (Some (h, hs)) (front h (taken_elem x hs))))
      refl (ap (with_code_front (code_of h)) (codes_taken x hs) ∙ code_front h (taken_elem x hs))

  trees_taken : (x : Entry) (hs : List Elem) → taken x (map tree_of hs) ≡ option_map trees_of (taken_elem x hs)
  trees_taken x [] = refl
  trees_taken x (h ∷ hs) =
      either (is_elem x h)
      (λ t. cond t (Some (tree_of h, map tree_of hs)) (with_front (tree_of h) (taken x (map tree_of hs))) ≡ option_map trees_of (cond t (Some (h, hs)) (front h (taken_elem x hs))))
      refl (ap (with_front (tree_of h)) (trees_taken x hs) ∙ tree_front h (taken_elem x hs))

  abbrev TakenOk : Entry → Option (Elem × List Elem) → Type 0
  TakenOk x None = Unit {0}
  TakenOk x (Some p) = is_elem x p.0 ≡ true

  front_ok : (x : Entry) (h : Elem) (o : Option (Elem × List Elem)) → TakenOk x o → TakenOk x (front h o)
  front_ok x h None k = k
  front_ok x h (Some p) k = k

  first_ok : (x : Entry) (h : Elem) (hs : List Elem) (t : Bool) → is_elem x h ≡ t → TakenOk x (taken_elem x hs) → TakenOk x (cond t (Some (h, hs)) (front h (taken_elem x hs)))
  first_ok x h hs true e k = e
  first_ok x h hs false e k = front_ok x h (taken_elem x hs) k

  taken_ok : (x : Entry) (hs : List Elem) → TakenOk x (taken_elem x hs)
  taken_ok x [] = record {}
  taken_ok x (h ∷ hs) = first_ok x h hs (is_elem x h) refl (taken_ok x hs)

  counts : (q : Id) (hs : List Elem) → times_code_handles q (map code_of hs) ≡ times_handles q (map tree_of hs)
  counts q [] = refl
  counts q (h ∷ hs) = ap (λ n. (occurs q (item_made h.spot) + (times_in q (lives_of h.codes) + times_comment q h.comment)) + n) (counts q hs)

  kept_follows : (s : ItemSpot) (k : Option ℕ) (o : Outcome (Codes × State)) (r : Lives × State) → FollowsIn (PlacedItem s) o r
      → FollowsItem (on_ok o (λ r. ok (item_done s (kept k r)))) (record { spot = s; arm = record { comment = k; lives = r.0; state = r.1 } })
  kept_follows s k lost r h = record {}
  kept_follows s k deep r h = h
  kept_follows s k (ok x) r (is, fine, placed) =
      subst (λ y. FollowsItem (ok (item_done s (kept k x))) (record { spot = s; arm = record { comment = k; lives = y.0; state = y.1 } })) is
      (refl, subst (λ y. are_deep y.0 ≡ false) (sym is) fine, placed)

  same_path : (x : Entry) (h : Elem) → is_elem x h ≡ true → item h.spot.key h.spot.occurrence ≡ item x.key x.occurrence
  same_path x h e =
      sym (ap (λ k. item k x.occurrence) (same_means ⊥ no_owners no_owners-Decides x.key h.spot.key (both_left (same no_owners x.key h.spot.key) (nat_eq x.occurrence h.spot.occurrence) e))
      ∙ ap (item h.spot.key) (eqb-true x.occurrence h.spot.occurrence (both_right (same no_owners x.key h.spot.key) (nat_eq x.occurrence h.spot.occurrence) e)))

  renew_follows : (x : Entry) (h : Elem) (st : State) → is_elem x h ≡ true
      → FollowsItem (renew_item_code_as naming (item x.key x.occurrence ∷ pp) x (code_of h) st) (renew_item_as naming ns ms (item x.key x.occurrence ∷ pp) x (tree_of h) st)
  renew_follows x h st e =
      subst (λ y. FollowsItem (renew_item_code_as naming (y ∷ pp) x (code_of h) st) (renew_item_as naming ns ms (y ∷ pp) x (tree_of h) st)) (same_path x h e)
      (let q = item h.spot.key h.spot.occurrence ∷ pp in
      let st2 = give h.spot.index (naming.index_source h.spot.index q) (count_value x.index) (give h.spot.value (naming.value_source h.spot.value q) x.value st) in
      kept_follows h.spot h.comment (renew_codes_as naming run m q 0 h.codes st2) (renew_body_as naming env.app store m (inner h.spot) q 0 a (lives_of h.codes) st2) (h.goes st2))

  module _ (one : Path → Entry → State → Outcome ItemDone) (tree_one : Path → Entry → State → ItemGrown)
      (ones : (x : Entry) (st : State) → FollowsItem (one (item x.key x.occurrence ∷ pp) x st) (tree_one (item x.key x.occurrence ∷ pp) x st)) where
    abbrev P : ItemCodes → Type 0
    P is = PlacedItems env c ms w pp ns a is

    -- an item, and then the others
    item_then : (o : Outcome ItemDone) (g : ItemGrown) → FollowsItem o g
        → (rest : State → Outcome (ItemCodes × State)) (trees : State → Items × State) → ((st : State) → Follows P items_of items_deep (rest st) (trees st))
        → Follows P items_of items_deep (on_ok o (λ d. on_ok (rest d.arm.state) (λ r. ok (item_with d r))))
        (let r = trees g.arm.state in (item_live g.spot g.arm.comment g.arm.lives r.0, r.1))
    item_then lost g h rest trees step = record {}
    item_then deep g h rest trees step = or_first (are_deep g.arm.lives) _ h
    item_then (ok d) g (is, fine, placed) rest trees step =
        subst (λ y. Follows P items_of items_deep (on_ok (rest d.arm.state) (λ r. ok (item_with d r))) (let r = trees y.arm.state in (item_live y.spot y.arm.comment y.arm.lives r.0, r.1))) is
        (after (rest d.arm.state) (trees d.arm.state) (step d.arm.state) (subst (λ y. are_deep y.arm.lives ≡ false) (sym is) fine))
      where
        after : (o : Outcome (ItemCodes × State)) (r : Items × State) → Follows P items_of items_deep o r → are_deep (lives_of d.arm.codes) ≡ false
            → Follows P items_of items_deep (on_ok o (λ r. ok (item_with d r))) (item_live d.spot d.arm.comment (lives_of d.arm.codes) r.0, r.1)
        after lost r h f = record {}
        after deep r h f = or_second (are_deep (lives_of d.arm.codes)) (items_deep r.0) h
        after (ok x) r (is', fine', placed') f =
            subst (λ y. Follows P items_of items_deep (ok (item_with d x)) (item_live d.spot d.arm.comment (lives_of d.arm.codes) y.0, y.1)) is'
            (refl, or_none (are_deep (lives_of d.arm.codes)) (items_deep (items_of x.0)) f (subst (λ y. items_deep y.0 ≡ false) (sym is') fine'), (placed, placed'))

    -- what is left of the old items goes along
    with_rest : (es : List Entry) (o : Outcome ItemDone) (gs : List Elem) (z : Items × State)
        → Follows P items_of items_deep (on_ok o (λ d. on_ok (sync_codes_as naming one pp es (map code_of gs) d.arm.state) (λ r. ok (item_with d r)))) z
        → Follows P items_of items_deep (on_ok (on_ok o (with_left (map code_of gs))) (λ g. on_ok (sync_codes_as naming one pp es g.1 g.0.arm.state) (λ r. ok (item_with g.0 r)))) z
    with_rest es (ok d) gs z h = h
    with_rest es deep gs z h = h
    with_rest es lost gs z h = h

    pub syncs_code : (es : List Entry) (hs : List Elem) (st : State)
        → Follows P items_of items_deep (sync_codes_as naming one pp es (map code_of hs) st) (sync_as naming tree_one ns ms pp es (map tree_of hs) st)
    syncs_code [] hs st =
        subst (λ f. Follows P items_of items_deep (ok (no_item_codes, dropped_as naming f st)) (no_items, dropped_as naming (λ q. times_handles q (map tree_of hs)) st)) (sym (fun_ext (λ q. counts q hs)))
        (refl, refl, record {})
    syncs_code (x ∷ es) hs st =
        let q = item x.key x.occurrence ∷ pp in
        rw (codes_taken x hs, trees_taken x hs)
        (by (taken_elem x hs) (taken_ok x hs) (λ gs st'. syncs_code es gs st'))
      where
        by : (o : Option (Elem × List Elem)) → TakenOk x o
            → ((gs : List Elem) (st' : State) → Follows P items_of items_deep (sync_codes_as naming one pp es (map code_of gs) st') (sync_as naming tree_one ns ms pp es (map tree_of gs) st'))
            → Follows P items_of items_deep
            (on_ok (sync_one_code_as naming one (item x.key x.occurrence ∷ pp) x (map code_of hs) (option_map codes_of o) st) (λ g. on_ok (sync_codes_as naming one pp es g.1 g.0.arm.state) (λ r. ok (item_with g.0 r))))
            (let g = sync_one_as naming tree_one ns ms (item x.key x.occurrence ∷ pp) x (map tree_of hs) (option_map trees_of o) st in
            let r = sync_as naming tree_one ns ms pp es g.1 g.0.arm.state in (item_live g.0.spot g.0.arm.comment g.0.arm.lives r.0, r.1))
        by None k more =
            with_rest es (one (item x.key x.occurrence ∷ pp) x st) hs _
            (item_then (one (item x.key x.occurrence ∷ pp) x st) (tree_one (item x.key x.occurrence ∷ pp) x st) (ones x st)
            (λ st'. sync_codes_as naming one pp es (map code_of hs) st') (λ st'. sync_as naming tree_one ns ms pp es (map tree_of hs) st') (more hs))
        by (Some p) k more =
            with_rest es (renew_item_code_as naming (item x.key x.occurrence ∷ pp) x (code_of p.0) st) p.1 _
            (item_then (renew_item_code_as naming (item x.key x.occurrence ∷ pp) x (code_of p.0) st) (renew_item_as naming ns ms (item x.key x.occurrence ∷ pp) x (tree_of p.0) st) (renew_follows x p.0 st k)
            (λ st'. sync_codes_as naming one pp es (map code_of p.1) st') (λ st'. sync_as naming tree_one ns ms pp es (map tree_of p.1) st') (more p.1))

    pub news_code : (es : List Entry) (st : State) → Follows P items_of items_deep (fresh_codes one pp es st) (grow_entries tree_one pp es st)
    news_code [] st = (refl, refl, record {})
    news_code (x ∷ es) st =
        item_then (one (item x.key x.occurrence ∷ pp) x st) (tree_one (item x.key x.occurrence ∷ pp) x st) (ones x st)
        (λ st'. fresh_codes one pp es st') (λ st'. grow_entries tree_one pp es st') (λ st'. news_code es st')
