-- What the recorded program does at an update is what the machine over trees does, where it ends.
use Rattle.std.proofs.Common.{◌≡◌, ℕ, zero, suc, ◌+◌, List, [], ◌∷◌, map, Bool, true, false, cond, Option, Some, None, refl, sym, ◌∙◌, ap, subst}
use Rattle.gl_base.specs.Texts.{Text}
use Rattle.gl_ast.specs.Template.{Expr, Exprs, Stmt, text_stmt, comment_stmt, put, element, component_stmt, if_stmt, each, let_stmt, yield, Body, end, stmt}
use Rattle.gl_meaning.specs.Path.{at, main, otherwise, items, item, into, slot, Path}
use Rattle.gl_meaning.specs.Eval.{Store, class_at, takes_first}
use Rattle.gl_meaning.specs.Render.{Entry, entries, values_listed, Block, block_named}
use Rattle.gl_value.specs.Value.{Values, no_values, value}
use Rattle.gl_plain.specs.Ids.{Id, a_node}
use Rattle.gl_plain.specs.State.{MScope, mscope, mpassed, passed_in, mslots, mwriter, named_as, with_names, comment_content, State}
use Rattle.gl_plain.specs.Naming.{Naming, dropped_as}
use Rattle.gl_plain.specs.Binding.{Spot, first_value}
use Rattle.gl_plain.specs.Live.{items_deep, times_items, Live, Lives, element_live, let_live, component_live, yield_live, live_and, have_node, is_deep, are_deep, times_in, times_comment}
use Rattle.gl_plain.specs.Grow.{made_node, Arm, or_comment, branch_from, unlisted_from, listed_from, grow_entries}
use Rattle.gl_plain.specs.Renew.{fresh_items_as, handles_as, sync_as, where_values, spot_pairs, reread, renew_attrs, renew_mods, fresh_body_as, renew_as, renew_body_as, where_block}
use Rattle.gl_machine.specs.Sight.{Sight, Passing}
use Rattle.gl_machine.specs.Code.{Choice, Listing, ItemCodes, no_item_codes, item_code, items_of, Code, still_code, put_code, element_code, branch_code, listed_code, unlisted_code, let_code, component_code, yield_code, Codes, no_codes, code_and, live_of, lives_of}
use Rattle.gl_machine.specs.Outcome.{ok, on_ok}
use Rattle.gl_machine.specs.RenewCode.{unlisted_with, by_values, sync_codes_as, fresh_codes, fresh_item_as, fresh_other, code_handles_as, Runs, start, CodeArm, commented, kept, branch_with, fresh_branch, renew_code_as, renew_codes_as}
use Rattle.gl_machine.specs.Env.{Env}
use Rattle.gl_machine.specs.Placed.{ListingAt, PlacedItems, ChoiceAt, WhereFound, Placed, PlacedIn, Follows, FollowsIn, RunsRight_as}
use Rattle.gl_machine.proofs.SyncsCode.{FollowsItem, Elem, code_of, tree_of, syncs_code, news_code}
use Rattle.gl_machine.proofs.ItemsCode.{listing, ones}
use Rattle.gl_machine.proofs.Following.{follow_on, either, or_first, or_second, or_none}

module _ (naming : Naming) (env : Env) (store : Store) (run : Runs) (runs : RunsRight_as naming env store run) where
  abbrev StmtFollows : ℕ → ℕ → MScope → Passing → Path → Stmt → Code → State → Type 0
  StmtFollows m c ms w p x k st =
      Follows (Placed env c ms w p x) live_of is_deep (renew_code_as naming run m p k st) (renew_as naming env.app store m ms p x (live_of k) st)

  abbrev BodyFollows : ℕ → ℕ → MScope → Passing → Path → ℕ → Body → Codes → State → Type 0
  BodyFollows m c ms w p i b ks st =
      FollowsIn (PlacedIn env c ms w p i b) (renew_codes_as naming run m p i ks st) (renew_body_as naming env.app store m ms p i b (lives_of ks) st)

  -- a branch that is rendered anew
  module _ (m c : ℕ) (ms : MScope) (w : Passing) (p : Path) (e : Expr) (unless : Bool) (a b : Body) (z : Choice) (x : Spot) (at_choice : ChoiceAt env c ms w unless a b z) where
    abbrev Is : Code → Type 0
    Is k = Placed env c ms w p (if_stmt e unless a b) k

    fresh_arm : (u : Bool) (r : Codes × State) → ((k : Option ℕ) → Is (branch_code z x u k r.0)) → are_deep (lives_of r.0) ≡ false
        → Follows Is live_of is_deep (ok (branch_with z x u (commented r))) (branch_from x u (or_comment (lives_of r.0, r.1)))
    fresh_arm u r is fine =
        either (have_node (lives_of r.0))
        (λ t. Follows Is live_of is_deep
        (ok (branch_with z x u (cond t (record { comment = None; codes = r.0; state = r.1 }) (record { comment = Some (r.1.next a_node); codes = r.0; state = made_node (comment_content []) r.1 }))))
        (branch_from x u (cond t (record { comment = None; lives = lives_of r.0; state = r.1 }) (record { comment = Some (r.1.next a_node); lives = lives_of r.0; state = made_node (comment_content []) r.1 }))))
        (refl, fine, is None) (refl, fine, is (Some (r.1.next a_node)))

    same_deep : (u : Bool) (r : Lives × State) → are_deep r.0 ≡ true → is_deep (branch_from x u (or_comment r)).0 ≡ true
    same_deep u r d =
        either (have_node r.0)
        (λ t. is_deep (branch_from x u (cond t (record { comment = None; lives = r.0; state = r.1 }) (record { comment = Some (r.1.next a_node); lives = r.0; state = made_node (comment_content []) r.1 }))).0 ≡ true)
        d d

    fresh_first : (st : State) → Follows Is live_of is_deep (fresh_branch run z x true p m st) (branch_from x true (or_comment (fresh_body_as naming env.app store m ms (main ∷ p) a st)))
    fresh_first st =
        follow_on (PlacedIn env c ms w (main ∷ p) 0 a) lives_of are_deep Is live_of is_deep (run (start z.sight z.first (main ∷ p) m) st) (fresh_body_as naming env.app store m ms (main ∷ p) a st)
        (λ r. ok (branch_with z x true (commented r))) (λ r. branch_from x true (or_comment r))
        (subst (λ v. FollowsIn (PlacedIn env c ms w (main ∷ p) 0 a) (run (start v z.first (main ∷ p) m) st) (fresh_body_as naming env.app store m ms (main ∷ p) a st)) (sym at_choice.1)
        (runs c ms w at_choice.2 z.first a at_choice.3 (main ∷ p) m st))
        (same_deep true) (λ r fine placed. fresh_arm true r (λ k. (at_choice, placed)) fine)

    fresh_second : (st : State) → Follows Is live_of is_deep (fresh_branch run z x false p m st) (branch_from x false (or_comment (fresh_body_as naming env.app store m ms (otherwise ∷ p) b st)))
    fresh_second st =
        follow_on (PlacedIn env c ms w (otherwise ∷ p) 0 b) lives_of are_deep Is live_of is_deep (run (start z.sight z.second (otherwise ∷ p) m) st) (fresh_body_as naming env.app store m ms (otherwise ∷ p) b st)
        (λ r. ok (branch_with z x false (commented r))) (λ r. branch_from x false (or_comment r))
        (subst (λ v. FollowsIn (PlacedIn env c ms w (otherwise ∷ p) 0 b) (run (start v z.second (otherwise ∷ p) m) st) (fresh_body_as naming env.app store m ms (otherwise ∷ p) b st)) (sym at_choice.1)
        (runs c ms w at_choice.2 z.second b at_choice.4 (otherwise ∷ p) m st))
        (same_deep false) (λ r fine placed. fresh_arm false r (λ k. (at_choice, placed)) fine)

  yields_code : (m c : ℕ) (ms : MScope) (w : Passing) (p : Path) (es : Exprs) (n : Text) (made : List Id) (rs : List ℕ) (cs : Codes) (st : State)
      → (ih : (q : ℕ) (u : Passing) (ms' : MScope) (b : Body) → PlacedIn env q ms' u (slot n ∷ p) 0 b cs → BodyFollows m q ms' u (slot n ∷ p) 0 b cs st)
      → (o : Option Block) → block_named n (mslots (passed_in ms)) ≡ o
      → WhereFound o (λ b. (q : ℕ) × (u : Passing) × PlacedIn env q (with_names (named_as b.params rs) (mwriter (passed_in ms))) u (slot n ∷ p) 0 b.body cs) (cs ≡ no_codes)
      → Follows (Placed env c ms w p (yield es n)) live_of is_deep (on_ok (renew_codes_as naming run m (slot n ∷ p) 0 cs st) (λ r. ok (yield_code n made rs r.0, r.1)))
      (let r = where_block o (λ b. renew_body_as naming env.app store m (with_names (named_as b.params rs) (mwriter (passed_in ms))) (slot n ∷ p) 0 b.body (lives_of cs) st) (lives_of cs, st) in (yield_live n made rs r.0, r.1))
  yields_code m c ms w p es n made rs cs st ih None e h =
      subst (λ ks. Follows (Placed env c ms w p (yield es n)) live_of is_deep (on_ok (renew_codes_as naming run m (slot n ∷ p) 0 ks st) (λ r. ok (yield_code n made rs r.0, r.1))) (yield_live n made rs (lives_of ks), st)) (sym h)
      (refl, refl, (refl, subst (λ o. WhereFound o (λ b. (q : ℕ) × (u : Passing) × PlacedIn env q (with_names (named_as b.params rs) (mwriter (passed_in ms))) u (slot n ∷ p) 0 b.body no_codes) (no_codes ≡ no_codes)) (sym e) refl))
  yields_code m c ms w p es n made rs cs st ih (Some b) e (q, u, h) =
      let ms' = with_names (named_as b.params rs) (mwriter (passed_in ms)) in
      follow_on (PlacedIn env q ms' u (slot n ∷ p) 0 b.body) lives_of are_deep (Placed env c ms w p (yield es n)) live_of is_deep
      (renew_codes_as naming run m (slot n ∷ p) 0 cs st) (renew_body_as naming env.app store m ms' (slot n ∷ p) 0 b.body (lives_of cs) st)
      (λ r. ok (yield_code n made rs r.0, r.1)) (λ r. (yield_live n made rs r.0, r.1))
      (ih q u ms' b.body h) (λ r d. d)
      (λ r fine placed. (refl, fine, (refl, subst (λ o. WhereFound o (λ b. (q : ℕ) × (u : Passing) × PlacedIn env q (with_names (named_as b.params rs) (mwriter (passed_in ms))) u (slot n ∷ p) 0 b.body r.0) (r.0 ≡ no_codes)) (sym e) (q, u, placed))))

  -- lists
  abbrev made_listing : Text → ℕ → ℕ → ℕ → ℕ → Sight → Listing
  made_listing k v i b o t = record { key = k; value = v; index = i; body = b; other = o; sight = t }

  rebuilt : (k k' : Text) → k ≡ k' → (v v' : ℕ) → v ≡ v' → (i i' : ℕ) → i ≡ i' → (b o : ℕ) (t t' : Sight) → t ≡ t' → made_listing k v i b o t ≡ made_listing k' v' i' b o t'
  rebuilt k k' ek v v' ev i i' ei b o t t' et =
      ap (λ y. made_listing y v i b o t) ek ∙ (ap (λ y. made_listing k' y i b o t) ev ∙ (ap (λ y. made_listing k' v' y b o t) ei ∙ ap (λ y. made_listing k' v' i' b o y) et))

  module _ (m c : ℕ) (ms : MScope) (w : Passing) (p : Path) (e : Expr) (key : Text) (ns : List Text) (a b : Body) (z : Listing) (x : Spot)
      (at_list : ListingAt env c ms w key ns a b z) where
    abbrev Each : Code → Type 0
    Each k = Placed env c ms w p (each e key ns a b) k

    abbrev Rows : ItemCodes → Type 0
    Rows is = PlacedItems env c ms w (items ∷ p) ns a is

    z_is : listing naming env store run runs m c w (items ∷ p) a key z.body z.other ms at_list.5 ns ≡ z
    z_is = sym (rebuilt z.key key at_list.0 z.value _ at_list.1 z.index _ at_list.2 z.body z.other z.sight _ at_list.4)

    one_follows : (y : Entry) (st : State)
        → FollowsItem naming env store run runs m c ms w (items ∷ p) ns a (fresh_item_as naming run z m (item y.key y.occurrence ∷ items ∷ p) y st) (fresh_items_as naming env.app store m ms ns a (item y.key y.occurrence ∷ items ∷ p) y st)
    one_follows y st =
        subst (λ zz. FollowsItem naming env store run runs m c ms w (items ∷ p) ns a (fresh_item_as naming run zz m (item y.key y.occurrence ∷ items ∷ p) y st) (fresh_items_as naming env.app store m ms ns a (item y.key y.occurrence ∷ items ∷ p) y st)) z_is
        (ones naming env store run runs m c w (items ∷ p) a key z.body z.other ms at_list.5 ns at_list.3 at_list.6 y st)

    other_arm : (r : Codes × State) → PlacedIn env c ms w (otherwise ∷ p) 0 b r.0 → are_deep (lives_of r.0) ≡ false
        → Follows Each live_of is_deep (ok (unlisted_with z x (commented r))) (unlisted_from x (or_comment (lives_of r.0, r.1)))
    other_arm r placed fine =
        either (have_node (lives_of r.0))
        (λ t. Follows Each live_of is_deep
        (ok (unlisted_with z x (cond {A = CodeArm} t (record { comment = None; codes = r.0; state = r.1 }) (record { comment = Some (r.1.next a_node); codes = r.0; state = made_node (comment_content []) r.1 }))))
        (unlisted_from x (cond {A = Arm} t (record { comment = None; lives = lives_of r.0; state = r.1 }) (record { comment = Some (r.1.next a_node); lives = lives_of r.0; state = made_node (comment_content []) r.1 }))))
        (refl, fine, (at_list, placed)) (refl, fine, (at_list, placed))

    other_follows : (st : State) → Follows Each live_of is_deep (fresh_other run z x p m st) (unlisted_from x (or_comment (fresh_body_as naming env.app store m ms (otherwise ∷ p) b st)))
    other_follows st =
        follow_on (PlacedIn env c ms w (otherwise ∷ p) 0 b) lives_of are_deep Each live_of is_deep (run (start z.sight z.other (otherwise ∷ p) m) st) (fresh_body_as naming env.app store m ms (otherwise ∷ p) b st)
        (λ r. ok (unlisted_with z x (commented r))) (λ r. unlisted_from x (or_comment r))
        (subst (λ v. FollowsIn (PlacedIn env c ms w (otherwise ∷ p) 0 b) (run (start v z.other (otherwise ∷ p) m) st) (fresh_body_as naming env.app store m ms (otherwise ∷ p) b st)) (sym at_list.4)
        (runs c ms w at_list.5 z.other b at_list.7 (otherwise ∷ p) m st))
        (λ r d. either (have_node r.0)
        (λ t. is_deep (unlisted_from x (cond {A = Arm} t (record { comment = None; lives = r.0; state = r.1 }) (record { comment = Some (r.1.next a_node); lives = r.0; state = made_node (comment_content []) r.1 }))).0 ≡ true) d d)
        (λ r fine placed. other_arm r placed fine)

    listed_by : (hs : List (Elem naming env store run runs m c ms w (items ∷ p) ns a)) (is : ItemCodes) (st1 : State)
        → map (code_of naming env store run runs m c ms w (items ∷ p) ns a) hs ≡ code_handles_as naming run m is
        → map (tree_of naming env store run runs m c ms w (items ∷ p) ns a) hs ≡ handles_as naming env.app store m a (items_of is) → (vs : Values Path)
        → Follows Each live_of is_deep
        (by_values vs (λ vs. on_ok (sync_codes_as naming (fresh_item_as naming run z m) (items ∷ p) (entries key 0 [] vs) (code_handles_as naming run m is) st1) (λ r. ok (listed_code z x r.0, r.1)))
        (fresh_other run z x p m (dropped_as naming (λ q. times_items q (items_of is)) st1)))
        (where_values vs (λ vs. listed_from x (sync_as naming (fresh_items_as naming env.app store m ms ns a) ns ms (items ∷ p) (entries key 0 [] vs) (handles_as naming env.app store m a (items_of is)) st1))
        (unlisted_from x (or_comment (fresh_body_as naming env.app store m ms (otherwise ∷ p) b (dropped_as naming (λ q. times_items q (items_of is)) st1)))))
    listed_by hs is st1 ec et no_values = other_follows (dropped_as naming (λ q. times_items q (items_of is)) st1)
    listed_by hs is st1 ec et (value v vs) =
        let es = entries key 0 [] (value v vs) in
        follow_on Rows items_of items_deep Each live_of is_deep
        (sync_codes_as naming (fresh_item_as naming run z m) (items ∷ p) es (code_handles_as naming run m is) st1) (sync_as naming (fresh_items_as naming env.app store m ms ns a) ns ms (items ∷ p) es (handles_as naming env.app store m a (items_of is)) st1)
        (λ r. ok (listed_code z x r.0, r.1)) (λ r. listed_from x r)
        (subst (λ cs. Follows Rows items_of items_deep (sync_codes_as naming (fresh_item_as naming run z m) (items ∷ p) es cs st1) (sync_as naming (fresh_items_as naming env.app store m ms ns a) ns ms (items ∷ p) es (handles_as naming env.app store m a (items_of is)) st1)) ec
        (subst (λ ts. Follows Rows items_of items_deep (sync_codes_as naming (fresh_item_as naming run z m) (items ∷ p) es (map (code_of naming env store run runs m c ms w (items ∷ p) ns a) hs) st1) (sync_as naming (fresh_items_as naming env.app store m ms ns a) ns ms (items ∷ p) es ts st1)) et
        (syncs_code naming env store run runs m c ms w (items ∷ p) ns a (fresh_item_as naming run z m) (fresh_items_as naming env.app store m ms ns a) one_follows es hs st1)))
        (λ r d. d) (λ r fine placed. (refl, fine, (at_list, placed)))

    unlisted_by : (k : Option ℕ) (cs : Codes) (st1 : State) → BodyFollows m c ms w (otherwise ∷ p) 0 b cs st1 → (vs : Values Path)
        → Follows Each live_of is_deep
        (by_values vs (λ vs. on_ok (fresh_codes (fresh_item_as naming run z m) (items ∷ p) (entries key 0 [] vs) (dropped_as naming (λ q. times_in q (lives_of cs) + times_comment q k) st1)) (λ r. ok (listed_code z x r.0, r.1)))
        (on_ok (renew_codes_as naming run m (otherwise ∷ p) 0 cs st1) (λ r. ok (unlisted_with z x (kept k r)))))
        (where_values vs (λ vs. listed_from x (grow_entries (fresh_items_as naming env.app store m ms ns a) (items ∷ p) (entries key 0 [] vs) (dropped_as naming (λ q. times_in q (lives_of cs) + times_comment q k) st1)))
        (unlisted_from x (let r = renew_body_as naming env.app store m ms (otherwise ∷ p) 0 b (lives_of cs) st1 in record { comment = k; lives = r.0; state = r.1 })))
    unlisted_by k cs st1 ih no_values =
        follow_on (PlacedIn env c ms w (otherwise ∷ p) 0 b) lives_of are_deep Each live_of is_deep
        (renew_codes_as naming run m (otherwise ∷ p) 0 cs st1) (renew_body_as naming env.app store m ms (otherwise ∷ p) 0 b (lives_of cs) st1)
        (λ r. ok (unlisted_with z x (kept k r))) (λ r. unlisted_from x (record { comment = k; lives = r.0; state = r.1 }))
        ih (λ r d. d) (λ r fine placed. (refl, fine, (at_list, placed)))
    unlisted_by k cs st1 ih (value v vs) =
        let es = entries key 0 [] (value v vs) in
        let gone = dropped_as naming (λ q. times_in q (lives_of cs) + times_comment q k) st1 in
        follow_on Rows items_of items_deep Each live_of is_deep
        (fresh_codes (fresh_item_as naming run z m) (items ∷ p) es gone) (grow_entries (fresh_items_as naming env.app store m ms ns a) (items ∷ p) es gone)
        (λ r. ok (listed_code z x r.0, r.1)) (λ r. listed_from x r)
        (news_code naming env store run runs m c ms w (items ∷ p) ns a (fresh_item_as naming run z m) (fresh_items_as naming env.app store m ms ns a) one_follows es gone)
        (λ r d. d) (λ r fine placed. (refl, fine, (at_list, placed)))

  -- the old items, each with the law of its body
  abbrev Elems : ℕ → ℕ → MScope → Passing → Path → List Text → Body → ItemCodes → Type 0
  Elems m c ms w pp ns a is =
      (hs : List (Elem naming env store run runs m c ms w pp ns a)) × (map (code_of naming env store run runs m c ms w pp ns a) hs ≡ code_handles_as naming run m is)
      × (map (tree_of naming env store run runs m c ms w pp ns a) hs ≡ handles_as naming env.app store m a (items_of is))

  mutual
    pub renews_code : (m c : ℕ) (ms : MScope) (w : Passing) (p : Path) (x : Stmt) (k : Code) (st : State) → Placed env c ms w p x k → StmtFollows m c ms w p x k st
    renews_code m c ms w p (text_stmt t) (still_code n) st h = (refl, refl, h)
    renews_code m c ms w p (comment_stmt t) (still_code n) st h = (refl, refl, h)
    renews_code m c ms w p (put e) (put_code n x) st h = (refl, refl, h)
    renews_code m c ms w p (element tag ps b) (element_code n made xs zs cs) st h =
        follow_on (PlacedIn env c ms w p 0 b) lives_of are_deep (Placed env c ms w p (element tag ps b)) live_of is_deep
        (renew_codes_as naming run m p 0 cs (renew_attrs n xs st)) (renew_body_as naming env.app store m ms p 0 b (lives_of cs) (renew_attrs n xs st))
        (λ r. ok (element_code n made xs zs r.0, renew_mods zs r.1)) (λ r. (element_live n made xs zs r.0, renew_mods zs r.1))
        (renews_codes m c ms w p 0 b cs (renew_attrs n xs st) h) (λ r d. d) (λ r fine placed. (refl, fine, placed))
    renews_code m c ms w p (if_stmt e unless a b) (branch_code z x true k cs) st (h, hs) =
        let st1 = reread x.ref st in
        let gone = dropped_as naming (λ q. times_in q (lives_of cs) + times_comment q k) st1 in
        let P = Placed env c ms w p (if_stmt e unless a b) in
        subst (λ v. Follows (Placed env c ms w p (if_stmt e unless a b)) live_of is_deep
        (cond (takes_first v (first_value (spot_pairs st1 x.ref))) (on_ok (renew_codes_as naming run m (main ∷ p) 0 cs st1) (λ r. ok (branch_with z x true (kept k r)))) (fresh_branch run z x false p m gone))
        (cond {A = Live × State} (takes_first unless (first_value (spot_pairs st1 x.ref))) (branch_from x true (let r = renew_body_as naming env.app store m ms (main ∷ p) 0 a (lives_of cs) st1 in record { comment = k; lives = r.0; state = r.1 }))
        (branch_from x false (or_comment (fresh_body_as naming env.app store m ms (otherwise ∷ p) b gone))))) (sym h.0)
        (either (takes_first unless (first_value (spot_pairs st1 x.ref)))
        (λ t. Follows (Placed env c ms w p (if_stmt e unless a b)) live_of is_deep
        (cond t (on_ok (renew_codes_as naming run m (main ∷ p) 0 cs st1) (λ r. ok (branch_with z x true (kept k r)))) (fresh_branch run z x false p m gone))
        (cond {A = Live × State} t (branch_from x true (let r = renew_body_as naming env.app store m ms (main ∷ p) 0 a (lives_of cs) st1 in record { comment = k; lives = r.0; state = r.1 }))
        (branch_from x false (or_comment (fresh_body_as naming env.app store m ms (otherwise ∷ p) b gone)))))
        (follow_on (PlacedIn env c ms w (main ∷ p) 0 a) lives_of are_deep P live_of is_deep
        (renew_codes_as naming run m (main ∷ p) 0 cs st1) (renew_body_as naming env.app store m ms (main ∷ p) 0 a (lives_of cs) st1)
        (λ r. ok (branch_with z x true (kept k r))) (λ r. branch_from x true (record { comment = k; lives = r.0; state = r.1 }))
        (renews_codes m c ms w (main ∷ p) 0 a cs st1 hs) (λ r d. d) (λ r fine placed. (refl, fine, (h, placed))))
        (fresh_second m c ms w p e unless a b z x h gone))
    renews_code m c ms w p (if_stmt e unless a b) (branch_code z x false k cs) st (h, hs) =
        let st1 = reread x.ref st in
        let gone = dropped_as naming (λ q. times_in q (lives_of cs) + times_comment q k) st1 in
        let P = Placed env c ms w p (if_stmt e unless a b) in
        subst (λ v. Follows (Placed env c ms w p (if_stmt e unless a b)) live_of is_deep
        (cond (takes_first v (first_value (spot_pairs st1 x.ref))) (fresh_branch run z x true p m gone) (on_ok (renew_codes_as naming run m (otherwise ∷ p) 0 cs st1) (λ r. ok (branch_with z x false (kept k r)))))
        (cond {A = Live × State} (takes_first unless (first_value (spot_pairs st1 x.ref))) (branch_from x true (or_comment (fresh_body_as naming env.app store m ms (main ∷ p) a gone)))
        (branch_from x false (let r = renew_body_as naming env.app store m ms (otherwise ∷ p) 0 b (lives_of cs) st1 in record { comment = k; lives = r.0; state = r.1 })))) (sym h.0)
        (either (takes_first unless (first_value (spot_pairs st1 x.ref)))
        (λ t. Follows (Placed env c ms w p (if_stmt e unless a b)) live_of is_deep
        (cond t (fresh_branch run z x true p m gone) (on_ok (renew_codes_as naming run m (otherwise ∷ p) 0 cs st1) (λ r. ok (branch_with z x false (kept k r)))))
        (cond {A = Live × State} t (branch_from x true (or_comment (fresh_body_as naming env.app store m ms (main ∷ p) a gone)))
        (branch_from x false (let r = renew_body_as naming env.app store m ms (otherwise ∷ p) 0 b (lives_of cs) st1 in record { comment = k; lives = r.0; state = r.1 }))))
        (fresh_first m c ms w p e unless a b z x h gone)
        (follow_on (PlacedIn env c ms w (otherwise ∷ p) 0 b) lives_of are_deep P live_of is_deep
        (renew_codes_as naming run m (otherwise ∷ p) 0 cs st1) (renew_body_as naming env.app store m ms (otherwise ∷ p) 0 b (lives_of cs) st1)
        (λ r. ok (branch_with z x false (kept k r))) (λ r. branch_from x false (record { comment = k; lives = r.0; state = r.1 }))
        (renews_codes m c ms w (otherwise ∷ p) 0 b cs st1 hs) (λ r d. d) (λ r fine placed. (refl, fine, (h, placed)))))
    renews_code m c ms w p (let_stmt es ns a) (let_code made rs cs) st h =
        follow_on (PlacedIn env c (with_names (named_as ns rs) ms) w (main ∷ p) 0 a) lives_of are_deep (Placed env c ms w p (let_stmt es ns a)) live_of is_deep
        (renew_codes_as naming run m (main ∷ p) 0 cs st) (renew_body_as naming env.app store m (with_names (named_as ns rs) ms) (main ∷ p) 0 a (lives_of cs) st)
        (λ r. ok (let_code made rs r.0, r.1)) (λ r. (let_live made rs r.0, r.1))
        (renews_codes m c (with_names (named_as ns rs) ms) w (main ∷ p) 0 a cs st h) (λ r d. d) (λ r fine placed. (refl, fine, placed))
    renews_code zero c ms w p (component_stmt n ps given bs) (component_code i made gm args (Some k) cs) st h = record {}
    renews_code (suc m) c ms w p (component_stmt n ps given bs) (component_code i made gm args (Some k) cs) st (q, u, is, h) =
        let ms' = mscope i args [] (mpassed k ps bs ms) in
        let t = (class_at env.app (into n ∷ p)).template in
        subst (λ v. Follows (Placed env c ms w p (component_stmt n ps given bs)) live_of is_deep
        (on_ok (renew_codes_as naming run m v 0 cs st) (λ r. ok (component_code i made gm args (Some k) r.0, r.1)))
        (let r = renew_body_as naming env.app store m ms' (into n ∷ p) 0 t (lives_of cs) st in (component_live i made gm args (Some k) r.0, r.1))) (sym is)
        (follow_on (PlacedIn env q ms' u (into n ∷ p) 0 t) lives_of are_deep (Placed env c ms w p (component_stmt n ps given bs)) live_of is_deep
        (renew_codes_as naming run m (into n ∷ p) 0 cs st) (renew_body_as naming env.app store m ms' (into n ∷ p) 0 t (lives_of cs) st)
        (λ r. ok (component_code i made gm args (Some k) r.0, r.1)) (λ r. (component_live i made gm args (Some k) r.0, r.1))
        (renews_codes m q ms' u (into n ∷ p) 0 t cs st h) (λ r d. d) (λ r fine placed. (refl, fine, (q, u, is, placed))))
    renews_code m c ms w p (yield es n) (yield_code k made rs cs) st (is, h) =
        subst (λ j. Follows (Placed env c ms w p (yield es n)) live_of is_deep (renew_code_as naming run m p (yield_code j made rs cs) st) (renew_as naming env.app store m ms p (yield es n) (live_of (yield_code j made rs cs)) st)) (sym is)
        (yields_code m c ms w p es n made rs cs st (λ q u ms' b g. renews_codes m q ms' u (slot n ∷ p) 0 b cs st g) (block_named n (mslots (passed_in ms))) refl h)
    renews_code m c ms w p (each e key ns a b) (listed_code z x is) st (h, hs) =
        let st1 = reread x.ref st in
        subst (λ k. Follows (Placed env c ms w p (each e key ns a b)) live_of is_deep
        (by_values (values_listed (first_value (spot_pairs st1 x.ref))) (λ vs. on_ok (sync_codes_as naming (fresh_item_as naming run z m) (items ∷ p) (entries k 0 [] vs) (code_handles_as naming run m is) st1) (λ r. ok (listed_code z x r.0, r.1)))
        (fresh_other run z x p m (dropped_as naming (λ q. times_items q (items_of is)) st1)))
        (renew_as naming env.app store m ms p (each e key ns a b) (live_of (listed_code z x is)) st)) (sym h.0)
        (let (es, ec, et) = elems m c ms w (items ∷ p) ns a is hs in
        listed_by m c ms w p e key ns a b z x h es is st1 ec et
        (values_listed (first_value (spot_pairs st1 x.ref))))
    renews_code m c ms w p (each e key ns a b) (unlisted_code z x k cs) st (h, hs) =
        let st1 = reread x.ref st in
        subst (λ kk. Follows (Placed env c ms w p (each e key ns a b)) live_of is_deep
        (by_values (values_listed (first_value (spot_pairs st1 x.ref)))
        (λ vs. on_ok (fresh_codes (fresh_item_as naming run z m) (items ∷ p) (entries kk 0 [] vs) (dropped_as naming (λ q. times_in q (lives_of cs) + times_comment q k) st1)) (λ r. ok (listed_code z x r.0, r.1)))
        (on_ok (renew_codes_as naming run m (otherwise ∷ p) 0 cs st1) (λ r. ok (unlisted_with z x (kept k r)))))
        (renew_as naming env.app store m ms p (each e key ns a b) (live_of (unlisted_code z x k cs)) st)) (sym h.0)
        (unlisted_by m c ms w p e key ns a b z x h k cs st1 (renews_codes m c ms w (otherwise ∷ p) 0 b cs st1 hs) (values_listed (first_value (spot_pairs st1 x.ref))))
    renews_code m c ms w p _ k st h = absurd h

    pub renews_codes : (m c : ℕ) (ms : MScope) (w : Passing) (p : Path) (i : ℕ) (b : Body) (ks : Codes) (st : State) → PlacedIn env c ms w p i b ks → BodyFollows m c ms w p i b ks st
    renews_codes m c ms w p i end no_codes st h = (refl, refl, h)
    renews_codes m c ms w p i (stmt x b) (code_and k ks) st (h, hs) =
        follow_on (Placed env c ms w (at i ∷ p) x) live_of is_deep (PlacedIn env c ms w p i (stmt x b)) lives_of are_deep
        (renew_code_as naming run m (at i ∷ p) k st) (renew_as naming env.app store m ms (at i ∷ p) x (live_of k) st)
        (λ r. on_ok (renew_codes_as naming run m p (suc i) ks r.1) (λ z. ok (code_and r.0 z.0, z.1)))
        (λ r. let z = renew_body_as naming env.app store m ms p (suc i) b (lives_of ks) r.1 in (live_and r.0 z.0, z.1))
        (renews_code m c ms w (at i ∷ p) x k st h) (λ r d. or_first (is_deep r.0) _ d)
        (λ r fine placed.
        follow_on (PlacedIn env c ms w p (suc i) b) lives_of are_deep (PlacedIn env c ms w p i (stmt x b)) lives_of are_deep
        (renew_codes_as naming run m p (suc i) ks r.1) (renew_body_as naming env.app store m ms p (suc i) b (lives_of ks) r.1)
        (λ z. ok (code_and r.0 z.0, z.1)) (λ z. (live_and (live_of r.0) z.0, z.1))
        (renews_codes m c ms w p (suc i) b ks r.1 hs) (λ z d. or_second (is_deep (live_of r.0)) (are_deep z.0) d)
        (λ z fine' placed'. (refl, or_none (is_deep (live_of r.0)) (are_deep (lives_of z.0)) fine fine', (placed, placed'))))
    renews_codes m c ms w p i end (code_and k ks) st h = absurd h
    renews_codes m c ms w p i (stmt x b) no_codes st h = absurd h

    elems : (m c : ℕ) (ms : MScope) (w : Passing) (pp : Path) (ns : List Text) (a : Body) (is : ItemCodes) → PlacedItems env c ms w pp ns a is → Elems m c ms w pp ns a is
    elems m c ms w pp ns a no_item_codes h = ([], refl, refl)
    elems m c ms w pp ns a (item_code z k cs is) (h, hs) =
        let (es, ec, et) = elems m c ms w pp ns a is hs in (
          record { spot = z; comment = k; codes = cs; goes = λ st. renews_codes m c (with_names (named_as ns z.params) ms) w (item z.key z.occurrence ∷ pp) 0 a cs st h } ∷ es,
          ap (λ xs. record { spot = z; comment = k; codes = cs; go = λ q st. renew_codes_as naming run m q 0 cs st } ∷ xs) ec,
          ap (λ xs. record { spot = z; comment = k; lives = lives_of cs; go = λ ms' q st. renew_body_as naming env.app store m ms' q 0 a (lives_of cs) st } ∷ xs) et,
        )
