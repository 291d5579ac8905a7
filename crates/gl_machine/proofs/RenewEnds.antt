-- An update of the recorded program ends, where what is appended does and components nest no deeper than they may.
use Rattle.std.proofs.Common.{◌≡◌, ℕ, zero, suc, ◌+◌, List, [], ◌∷◌, ◌++◌, map, Bool, true, false, ◌&&◌, cond, if◌then◌else◌, Option, Some, None, option_map, refl, sym, ◌∙◌, ap, subst}
use Rattle.std.specs.Prelude.{nat_eq, slice_get}
use mathlib.Core.Path.{fun_ext}
use Rattle.gl_base.specs.Texts.{Text}
use Rattle.gl_value.specs.Value.{Values, no_values, value, same, count_value}
use Rattle.gl_ast.specs.Template.{Stmt, text_stmt, comment_stmt, put, element, component_stmt, if_stmt, each, let_stmt, yield, Body, end, stmt}
use Rattle.gl_meaning.specs.Path.{at, main, otherwise, items, item, into, slot, Path, no_owners}
use Rattle.gl_meaning.specs.Eval.{Store, class_at, takes_first}
use Rattle.gl_meaning.specs.Render.{Entry, entries, values_listed, Block, block_named}
use Rattle.gl_opc.specs.Numbers.{parameter_symbol}
use Rattle.gl_plain.specs.Ids.{a_ref, Id, occurs}
use Rattle.gl_plain.specs.State.{Names, MScope, mscope, mnothing, mpassed, passed_in, mslots, mwriter, named_as, with_names, State}
use Rattle.gl_plain.specs.Naming.{Naming, dropped_as}
use Rattle.gl_plain.specs.State as s
use Rattle.gl_plain.specs.Binding.{first_value}
use Rattle.gl_plain.specs.Live.{ItemSpot, item_made, times_in, times_items, times_comment}
use Rattle.gl_plain.specs.Renew.{spot_pairs, reread, renew_attrs, renew_mods, give}
use Rattle.gl_machine.specs.Sight.{Sight, Passing, not_passed, with_locals}
use Rattle.gl_machine.specs.Code.{Listing, ItemCodes, no_item_codes, item_code, items_of, Code, still_code, put_code, element_code, branch_code, listed_code, unlisted_code, let_code, component_code, yield_code, Codes, no_codes, code_and, live_of, lives_of}
use Rattle.gl_machine.specs.Outcome.{Outcome, ok, on_ok, Ends}
use Rattle.gl_machine.specs.RenewCode.{Runs, start, kept, commented, branch_with, unlisted_with, ItemDone, item_done, CodeHandle, times_code_handles, with_code_front, taken_code, renew_item_code_as, with_left, sync_one_code_as, item_with, sync_codes_as, fresh_codes, by_values, item_start_as, fresh_branch, fresh_other, fresh_item_as, renew_code_as, renew_codes_as, code_handles_as}
use Rattle.gl_machine.specs.Params.{Known, TwoKnown}
use Rattle.gl_machine.specs.Nesting.{Nests, NestsIn, NestsItems}
use Rattle.gl_machine.specs.Env.{Env, symbols_at, by_symbol, texts_of, seen}
use Rattle.gl_machine.specs.Placed.{Fits, BodyThere, ListingAt, WhereFound, Placed, PlacedIn, PlacedItems, RunsEnd}
use Rattle.gl_machine.specs.Root.{PlacedRoot, renew_root_code_as}
use Rattle.gl_machine.proofs.Following.{either}
use Rattle.gl_machine.proofs.Symbols.{known_two}
use Rattle.gl_machine.proofs.More.{seen_more, names_more, fits_more}
use Rattle.gl_machine.proofs.Ending.{ends_at, ends_then, ends_on, ends_as, on_ok_twice}

-- Lists: old items whose updates end

module _ where
  record Elem : Type 0 where
    spot : ItemSpot
    comment : Option ℕ
    codes : Codes
    go : ℕ → Path → State → Outcome (Codes × State)
    goes : (q : Path) (st : State) → Ends (λ n. go n q st)

  abbrev handle : ℕ → Elem → CodeHandle
  handle n h = record { spot = h.spot; comment = h.comment; codes = h.codes; go = h.go n }

  abbrev is_elem : Entry → Elem → Bool
  is_elem x h = same no_owners x.key h.spot.key && nat_eq x.occurrence h.spot.occurrence

  abbrev front : Elem → Option (Elem × List Elem) → Option (Elem × List Elem)
  front h None = None
  front h (Some p) = Some (p.0, h ∷ p.1)

  abbrev taken_elem : Entry → List Elem → Option (Elem × List Elem)
  taken_elem x [] = None
  taken_elem x (h ∷ hs) = if is_elem x h then Some (h, hs) else front h (taken_elem x hs)

  abbrev handles : ℕ → Elem × List Elem → CodeHandle × List CodeHandle
  handles n p = (handle n p.0, map (handle n) p.1)

  handle_front : (n : ℕ) (h : Elem) (o : Option (Elem × List Elem)) → with_code_front (handle n h) (option_map (handles n) o) ≡ option_map (handles n) (front h o)
  handle_front n h None = refl
  handle_front n h (Some p) = refl

  handles_taken : (n : ℕ) (x : Entry) (hs : List Elem) → taken_code x (map (handle n) hs) ≡ option_map (handles n) (taken_elem x hs)
  handles_taken n x [] = refl
  handles_taken n x (h ∷ hs) =
      either (is_elem x h)
      (λ t. cond t (Some (handle n h, map (handle n) hs)) (with_code_front (handle n h) (taken_code x (map (handle n) hs))) ≡ option_map (handles n) (cond t (Some (h, hs)) (front h (taken_elem x hs))))
      refl (ap (with_code_front (handle n h)) (handles_taken n x hs) ∙ handle_front n h (taken_elem x hs))

  counts : (n k : ℕ) (q : Id) (hs : List Elem) → times_code_handles q (map (handle n) hs) ≡ times_code_handles q (map (handle k) hs)
  counts n k q [] = refl
  counts n k q (h ∷ hs) = ap (λ t. (occurs q (item_made h.spot) + (times_in q (lives_of h.codes) + times_comment q h.comment)) + t) (counts n k q hs)

  module _ (naming : Naming) (one : ℕ → Path → Entry → State → Outcome ItemDone) (ones : (q : Path) (x : Entry) (st : State) → Ends (λ n. one n q x st)) (pp : Path) where
    with_rest : (n : ℕ) (o : Outcome ItemDone) (es : List Entry) (gs : List CodeHandle)
        → on_ok (on_ok o (with_left gs)) (λ g. on_ok (sync_codes_as naming (one n) pp es g.1 g.0.arm.state) (λ r. ok (item_with g.0 r)))
        ≡ on_ok o (λ d. on_ok (sync_codes_as naming (one n) pp es gs d.arm.state) (λ r. ok (item_with d r)))
    with_rest n o es gs = on_ok_twice o (with_left gs) (λ g. on_ok (sync_codes_as naming (one n) pp es g.1 g.0.arm.state) (λ r. ok (item_with g.0 r)))

    abbrev Old : Type 0
    Old = Option (CodeHandle × List CodeHandle)

    abbrev stepped : ℕ → Entry → List Entry → List Elem → State → Old → Outcome (ItemCodes × State)
    stepped n x es hs st o =
        on_ok (sync_one_code_as naming (one n) (item x.key x.occurrence ∷ pp) x (map (handle n) hs) o st) (λ g. on_ok (sync_codes_as naming (one n) pp es g.1 g.0.arm.state) (λ r. ok (item_with g.0 r)))

    item_ends : (x : Entry) (es : List Entry) (hs : List Elem) (st : State) (o : Option (Elem × List Elem))
        → ((gs : List Elem) (st' : State) → Ends (λ n. sync_codes_as naming (one n) pp es (map (handle n) gs) st')) → Ends (λ n. stepped n x es hs st (option_map (handles n) o))
    item_ends x es hs st None more =
        let q = item x.key x.occurrence ∷ pp in
        ends_as (λ n. on_ok (one n q x st) (λ d. on_ok (sync_codes_as naming (one n) pp es (map (handle n) hs) d.arm.state) (λ r. ok (item_with d r)))) (λ n. stepped n x es hs st None)
        (λ n. with_rest n (one n q x st) es (map (handle n) hs))
        (ends_then (λ n. one n q x st) (λ n d. on_ok (sync_codes_as naming (one n) pp es (map (handle n) hs) d.arm.state) (λ r. ok (item_with d r))) (ones q x st)
        (λ d. ends_on (λ n. sync_codes_as naming (one n) pp es (map (handle n) hs) d.arm.state) (item_with d) (more hs d.arm.state)))
    item_ends x es hs st (Some p) more =
        let q = item x.key x.occurrence ∷ pp in
        let st2 = give p.0.spot.index (naming.index_source p.0.spot.index q) (count_value x.index) (give p.0.spot.value (naming.value_source p.0.spot.value q) x.value st) in
        ends_as (λ n. on_ok (renew_item_code_as naming q x (handle n p.0) st) (λ d. on_ok (sync_codes_as naming (one n) pp es (map (handle n) p.1) d.arm.state) (λ r. ok (item_with d r))))
        (λ n. stepped n x es hs st (Some (handles n p)))
        (λ n. with_rest n (renew_item_code_as naming q x (handle n p.0) st) es (map (handle n) p.1))
        (ends_then (λ n. renew_item_code_as naming q x (handle n p.0) st) (λ n d. on_ok (sync_codes_as naming (one n) pp es (map (handle n) p.1) d.arm.state) (λ r. ok (item_with d r)))
        (ends_on (λ n. p.0.go n q st2) (λ r. item_done p.0.spot (kept p.0.comment r)) (p.0.goes q st2))
        (λ d. ends_on (λ n. sync_codes_as naming (one n) pp es (map (handle n) p.1) d.arm.state) (item_with d) (more p.1 d.arm.state)))

    syncs_end : (es : List Entry) (hs : List Elem) (st : State) → Ends (λ n. sync_codes_as naming (one n) pp es (map (handle n) hs) st)
    syncs_end [] hs st =
        ends_as (λ n. ok (no_item_codes, dropped_as naming (λ q. times_code_handles q (map (handle 0) hs)) st)) (λ n. sync_codes_as naming (one n) pp [] (map (handle n) hs) st)
        (λ n. ap (λ f. ok (no_item_codes, dropped_as naming f st)) (fun_ext (λ q. counts n 0 q hs))) (ends_at (no_item_codes, dropped_as naming (λ q. times_code_handles q (map (handle 0) hs)) st))
    syncs_end (x ∷ es) hs st =
        ends_as (λ n. stepped n x es hs st (option_map (handles n) (taken_elem x hs))) (λ n. sync_codes_as naming (one n) pp (x ∷ es) (map (handle n) hs) st)
        (λ n. ap (stepped n x es hs st) (handles_taken n x hs)) (item_ends x es hs st (taken_elem x hs) (λ gs st'. syncs_end es gs st'))

    news_end : (es : List Entry) (st : State) → Ends (λ n. fresh_codes (one n) pp es st)
    news_end [] st = ends_at (no_item_codes, st)
    news_end (x ∷ es) st =
        let q = item x.key x.occurrence ∷ pp in
        ends_then (λ n. one n q x st) (λ n d. on_ok (fresh_codes (one n) pp es d.arm.state) (λ r. ok (item_with d r))) (ones q x st)
        (λ d. ends_on (λ n. fresh_codes (one n) pp es d.arm.state) (item_with d) (news_end es d.arm.state))

-- Items that are appended

module _ (naming : Naming) (env : Env) (store : Store) (run : ℕ → Runs) (runs : RunsEnd env store run) where
  module _ (m c : ℕ) (ms : MScope) (w : Passing) (key : Text) (body other : ℕ) (a : Body) (fits : Fits env c ms w) where
    abbrev listing : List Text → Listing
    listing ns = record { key = key; value = parameter_symbol (symbols_at env c) (slice_get ns 0); index = parameter_symbol (symbols_at env c) (slice_get ns 1); body = body; other = other; sight = seen env c ms w }

    named_ends : {B : Type 0} (g : Codes × State → B) (names : Names) → Known (symbols_at env c) (texts_of names) → BodyThere env c (texts_of (s.locals_in ms) ++ texts_of names) body a → (q : Path) (st : State)
        → Ends (λ n. on_ok (run n (start (with_locals (map (by_symbol (symbols_at env c)) names) (seen env c ms w)) body q m) st) (λ r. ok (g r)))
    named_ends g names known there q st =
        ends_on (λ n. run n (start (with_locals (map (by_symbol (symbols_at env c)) names) (seen env c ms w)) body q m) st) g
        (subst (λ v. Ends (λ n. run n (start v body q m) st)) (sym (seen_more env c ms w names))
        (runs c (with_names names ms) w (fits_more env c ms w names fits known) body a (subst (λ ts. BodyThere env c ts body a) (sym (names_more ms names)) there) q m st))

    ones_end : (ns : List Text) → TwoKnown (symbols_at env c) ns → Known (symbols_at env c) ns → BodyThere env c (texts_of (s.locals_in ms) ++ ns) body a → (q : Path) (x : Entry) (st : State)
        → Ends (λ n. fresh_item_as naming (run n) (listing ns) m q x st)
    ones_end [] t known there q x st = named_ends _ [] known there q _
    ones_end (n ∷ []) t known there q x st = named_ends _ ((n, st.next a_ref) ∷ []) known there q _
    ones_end (n ∷ k ∷ []) t known there q x st =
        let z = item_start_as naming (listing (n ∷ k ∷ [])) q x st in named_ends _ ((n, z.spot.value) ∷ (k, z.spot.index) ∷ []) known there q _
    ones_end (n ∷ k ∷ j ∷ ns) t known there q x st = absurd t

  -- the part of an update that one test chooses
  chosen : {B : Type 0} (t : Bool) (f g : ℕ → Outcome B) → Ends f → Ends g → Ends (λ n. cond t (f n) (g n))
  chosen true f g e h = e
  chosen false f g e h = h

  chosen_values : {B : Type 0} (vs : Values Path) (f : ℕ → Values Path → Outcome B) (g : ℕ → Outcome B) → ((us : Values Path) → Ends (λ n. f n us)) → Ends g → Ends (λ n. by_values vs (f n) (g n))
  chosen_values no_values f g e h = h
  chosen_values (value v vs) f g e h = e (value v vs)

  abbrev made_listing : Text → ℕ → ℕ → ℕ → ℕ → Sight → Listing
  made_listing k v i b o t = record { key = k; value = v; index = i; body = b; other = o; sight = t }

  rebuilt : (k k' : Text) → k ≡ k' → (v v' : ℕ) → v ≡ v' → (i i' : ℕ) → i ≡ i' → (b o : ℕ) (t t' : Sight) → t ≡ t' → made_listing k' v' i' b o t' ≡ made_listing k v i b o t
  rebuilt k k' ek v v' ev i i' ei b o t t' et =
      ap (λ y. made_listing k' v' i' b o y) (sym et) ∙ (ap (λ y. made_listing k' v' y b o t) (sym ei) ∙ (ap (λ y. made_listing k' y i b o t) (sym ev) ∙ ap (λ y. made_listing y v i b o t) (sym ek)))

  -- a body that is appended again
  module _ (m c : ℕ) (ms : MScope) (w : Passing) where
    anew : {B : Type 0} (g : Codes × State → B) (v : Sight) (from : ℕ) (b : Body) → v ≡ seen env c ms w → Fits env c ms w → BodyThere env c (texts_of (s.locals_in ms)) from b → (q : Path) (st : State)
        → Ends (λ n. on_ok (run n (start v from q m) st) (λ r. ok (g r)))
    anew g v from b same fits there q st =
        ends_on (λ n. run n (start v from q m) st) g (subst (λ v. Ends (λ n. run n (start v from q m) st)) (sym same) (runs c ms w fits from b there q m st))

    list_ends : (key : Text) (ns : List Text) (a b : Body) (z : Listing) → ListingAt env c ms w key ns a b z → (q : Path) (x : Entry) (st : State) → Ends (λ n. fresh_item_as naming (run n) z m q x st)
    list_ends key ns a b z at_list q x st =
        subst (λ z. Ends (λ n. fresh_item_as naming (run n) z m q x st)) (rebuilt z.key key at_list.0 z.value _ at_list.1 z.index _ at_list.2 z.body z.other z.sight _ at_list.4)
        (ones_end m c ms w key z.body z.other a at_list.5 ns at_list.3 (known_two (symbols_at env c) ns at_list.3) at_list.6 q x st)

  -- a yielded block, where there is one
  yielded_ends : (m : ℕ) (ms : MScope) (p : Path) (n : Text) (rs : List ℕ) (cs : Codes) (o : Option Block)
      → WhereFound o (λ b. (q : ℕ) × (u : Passing) × PlacedIn env q (with_names (named_as b.params rs) (mwriter (passed_in ms))) u (slot n ∷ p) 0 b.body cs) (cs ≡ no_codes)
      → (q : Path) (st : State)
      → ((b : Block) (j : ℕ) (u : Passing) → PlacedIn env j (with_names (named_as b.params rs) (mwriter (passed_in ms))) u (slot n ∷ p) 0 b.body cs → Ends (λ n. renew_codes_as naming (run n) m q 0 cs st))
      → Ends (λ n. renew_codes_as naming (run n) m q 0 cs st)
  yielded_ends m ms p n rs cs None e q st step = subst (λ ks. Ends (λ n. renew_codes_as naming (run n) m q 0 ks st)) (sym e) (ends_at (no_codes, st))
  yielded_ends m ms p n rs cs (Some b) (j, u, h) q st step = step b j u h

  mutual
    renew_ends : (m c : ℕ) (ms : MScope) (w : Passing) (p : Path) (x : Stmt) (k : Code) → Placed env c ms w p x k → Nests (live_of k) m → (q : Path) (st : State) → Ends (λ n. renew_code_as naming (run n) m q k st)
    renew_ends m c ms w p (text_stmt t) (still_code i) h d q st = ends_at (still_code i, st)
    renew_ends m c ms w p (comment_stmt t) (still_code i) h d q st = ends_at (still_code i, st)
    renew_ends m c ms w p (put e) (put_code i x) h d q st = ends_at _
    renew_ends m c ms w p (element tag ps b) (element_code i made xs zs cs) h d q st =
        ends_on (λ n. renew_codes_as naming (run n) m q 0 cs (renew_attrs i xs st)) (λ r. (element_code i made xs zs r.0, renew_mods zs r.1)) (renews_end m c ms w p 0 b cs h d q 0 (renew_attrs i xs st))
    renew_ends m c ms w p (if_stmt e unless a b) (branch_code z x true k cs) (h, hs) d q st =
        let st1 = reread x.ref st in
        let gone = dropped_as naming (λ q. times_in q (lives_of cs) + times_comment q k) st1 in
        chosen (takes_first z.unless (first_value (spot_pairs st1 x.ref)))
        (λ n. on_ok (renew_codes_as naming (run n) m (main ∷ q) 0 cs st1) (λ r. ok (branch_with z x true (kept k r)))) (λ n. fresh_branch (run n) z x false q m gone)
        (ends_on (λ n. renew_codes_as naming (run n) m (main ∷ q) 0 cs st1) (λ r. branch_with z x true (kept k r)) (renews_end m c ms w (main ∷ p) 0 a cs hs d (main ∷ q) 0 st1))
        (anew m c ms w (λ r. branch_with z x false (commented r)) z.sight z.second b h.1 h.2 h.4 (otherwise ∷ q) gone)
    renew_ends m c ms w p (if_stmt e unless a b) (branch_code z x false k cs) (h, hs) d q st =
        let st1 = reread x.ref st in
        let gone = dropped_as naming (λ q. times_in q (lives_of cs) + times_comment q k) st1 in
        chosen (takes_first z.unless (first_value (spot_pairs st1 x.ref)))
        (λ n. fresh_branch (run n) z x true q m gone) (λ n. on_ok (renew_codes_as naming (run n) m (otherwise ∷ q) 0 cs st1) (λ r. ok (branch_with z x false (kept k r))))
        (anew m c ms w (λ r. branch_with z x true (commented r)) z.sight z.first a h.1 h.2 h.3 (main ∷ q) gone)
        (ends_on (λ n. renew_codes_as naming (run n) m (otherwise ∷ q) 0 cs st1) (λ r. branch_with z x false (kept k r)) (renews_end m c ms w (otherwise ∷ p) 0 b cs hs d (otherwise ∷ q) 0 st1))
    renew_ends m c ms w p (let_stmt es ns a) (let_code made rs cs) h d q st =
        ends_on (λ n. renew_codes_as naming (run n) m (main ∷ q) 0 cs st) (λ r. (let_code made rs r.0, r.1)) (renews_end m c (with_names (named_as ns rs) ms) w (main ∷ p) 0 a cs h d (main ∷ q) 0 st)
    renew_ends zero c ms w p (component_stmt n ps given bs) (component_code i made gm args (Some k) cs) h d q st = absurd d
    renew_ends (suc m) c ms w p (component_stmt n ps given bs) (component_code i made gm args (Some k) cs) (j, u, is, h) d q st =
        ends_on (λ n. renew_codes_as naming (run n) m i.path 0 cs st) (λ r. (component_code i made gm args (Some k) r.0, r.1))
        (renews_end m j (mscope i args [] (mpassed k ps bs ms)) u (into n ∷ p) 0 (class_at env.app (into n ∷ p)).template cs h d i.path 0 st)
    renew_ends m c ms w p (yield es n) (yield_code k made rs cs) (is, h) d q st =
        ends_on (λ j. renew_codes_as naming (run j) m (slot k ∷ q) 0 cs st) (λ r. (yield_code k made rs r.0, r.1))
        (yielded_ends m ms p n rs cs (block_named n (mslots (passed_in ms))) h (slot k ∷ q) st (λ b j u g. renews_end m j (with_names (named_as b.params rs) (mwriter (passed_in ms))) u (slot n ∷ p) 0 b.body cs g d (slot k ∷ q) 0 st))
    renew_ends m c ms w p (each e key ns a b) (listed_code z x is) (h, hs) d q st =
        let st1 = reread x.ref st in
        let (es, same) = elems m c ms w (items ∷ p) ns a is hs d in
        chosen_values (values_listed (first_value (spot_pairs st1 x.ref)))
        (λ n vs. on_ok (sync_codes_as naming (fresh_item_as naming (run n) z m) (items ∷ q) (entries z.key 0 [] vs) (code_handles_as naming (run n) m is) st1) (λ r. ok (listed_code z x r.0, r.1)))
        (λ n. fresh_other (run n) z x q m (dropped_as naming (λ q. times_items q (items_of is)) st1))
        (λ vs.
        ends_on (λ n. sync_codes_as naming (fresh_item_as naming (run n) z m) (items ∷ q) (entries z.key 0 [] vs) (code_handles_as naming (run n) m is) st1) (λ r. (listed_code z x r.0, r.1))
        (ends_as (λ n. sync_codes_as naming (fresh_item_as naming (run n) z m) (items ∷ q) (entries z.key 0 [] vs) (map (handle n) es) st1)
        (λ n. sync_codes_as naming (fresh_item_as naming (run n) z m) (items ∷ q) (entries z.key 0 [] vs) (code_handles_as naming (run n) m is) st1)
        (λ n. ap (λ hs. sync_codes_as naming (fresh_item_as naming (run n) z m) (items ∷ q) (entries z.key 0 [] vs) hs st1) (same n))
        (syncs_end naming (λ n. fresh_item_as naming (run n) z m) (λ q x st. list_ends m c ms w key ns a b z h q x st) (items ∷ q) (entries z.key 0 [] vs) es st1)))
        (anew m c ms w (λ r. unlisted_with z x (commented r)) z.sight z.other b h.4 h.5 h.7 (otherwise ∷ q) (dropped_as naming (λ q. times_items q (items_of is)) st1))
    renew_ends m c ms w p (each e key ns a b) (unlisted_code z x k cs) (h, hs) d q st =
        let st1 = reread x.ref st in
        let gone = dropped_as naming (λ q. times_in q (lives_of cs) + times_comment q k) st1 in
        chosen_values (values_listed (first_value (spot_pairs st1 x.ref)))
        (λ n vs. on_ok (fresh_codes (fresh_item_as naming (run n) z m) (items ∷ q) (entries z.key 0 [] vs) gone) (λ r. ok (listed_code z x r.0, r.1)))
        (λ n. on_ok (renew_codes_as naming (run n) m (otherwise ∷ q) 0 cs st1) (λ r. ok (unlisted_with z x (kept k r))))
        (λ vs.
        ends_on (λ n. fresh_codes (fresh_item_as naming (run n) z m) (items ∷ q) (entries z.key 0 [] vs) gone) (λ r. (listed_code z x r.0, r.1))
        (news_end naming (λ n. fresh_item_as naming (run n) z m) (λ q x st. list_ends m c ms w key ns a b z h q x st) (items ∷ q) (entries z.key 0 [] vs) gone))
        (ends_on (λ n. renew_codes_as naming (run n) m (otherwise ∷ q) 0 cs st1) (λ r. unlisted_with z x (kept k r)) (renews_end m c ms w (otherwise ∷ p) 0 b cs hs d (otherwise ∷ q) 0 st1))
    renew_ends m c ms w p _ k h d q st = absurd h

    pub renews_end : (m c : ℕ) (ms : MScope) (w : Passing) (p : Path) (i : ℕ) (b : Body) (ks : Codes) → PlacedIn env c ms w p i b ks → NestsIn (lives_of ks) m → (q : Path) (j : ℕ) (st : State)
        → Ends (λ n. renew_codes_as naming (run n) m q j ks st)
    renews_end m c ms w p i end no_codes h d q j st = ends_at (no_codes, st)
    renews_end m c ms w p i (stmt x b) (code_and k ks) (h, hs) (d, ds) q j st =
        ends_then (λ n. renew_code_as naming (run n) m (at j ∷ q) k st) (λ n r. on_ok (renew_codes_as naming (run n) m q (suc j) ks r.1) (λ z. ok (code_and r.0 z.0, z.1)))
        (renew_ends m c ms w (at i ∷ p) x k h d (at j ∷ q) st)
        (λ r. ends_on (λ n. renew_codes_as naming (run n) m q (suc j) ks r.1) (λ z. (code_and r.0 z.0, z.1)) (renews_end m c ms w p (suc i) b ks hs ds q (suc j) r.1))
    renews_end m c ms w p i end (code_and k ks) h d q j st = absurd h
    renews_end m c ms w p i (stmt x b) no_codes h d q j st = absurd h

    elems : (m c : ℕ) (ms : MScope) (w : Passing) (pp : Path) (ns : List Text) (a : Body) (is : ItemCodes) → PlacedItems env c ms w pp ns a is → NestsItems (items_of is) m
        → (es : List Elem) × ((n : ℕ) → code_handles_as naming (run n) m is ≡ map (handle n) es)
    elems m c ms w pp ns a no_item_codes h d = ([], λ n. refl)
    elems m c ms w pp ns a (item_code z k cs is) (h, hs) (d, ds) =
        let (es, same) = elems m c ms w pp ns a is hs ds in (
          record {
            spot = z;
            comment = k;
            codes = cs;
            go = λ n q st. renew_codes_as naming (run n) m q 0 cs st;
            goes = λ q st. renews_end m c (with_names (named_as ns z.params) ms) w (item z.key z.occurrence ∷ pp) 0 a cs h d q 0 st;
          } ∷ es,
          λ n. ap (λ hs. record { spot = z; comment = k; codes = cs; go = λ q st. renew_codes_as naming (run n) m q 0 cs st } ∷ hs) (same n),
        )

-- the whole page
module _ (naming : Naming) (env : Env) (store : Store) (run : ℕ → Runs) (runs : RunsEnd env store run) where
  pub page_renew_ends : (m : ℕ) (k : Code) → PlacedRoot env k → Nests (live_of k) m → (st : State) → Ends (λ n. renew_root_code_as naming m (run n) k st)
  page_renew_ends zero (component_code i made gm args None cs) h d st = absurd d
  page_renew_ends (suc m) (component_code i made gm args None cs) (q, h) d st =
      ends_on (λ n. renew_codes_as naming (run n) m [] 0 cs st) (λ r. (component_code i made gm args None r.0, r.1))
      (renews_end naming env store run runs m q (mscope i args [] mnothing) not_passed [] 0 (class_at env.app []).template cs h d [] 0 st)
  page_renew_ends m _ h d st = absurd h
