-- An update of a tree, statement by statement.
use Rattle.std.proofs.Common.{◌≡◌, ℕ, suc, ◌+◌, ◌≤◌, true, false, List, [], ◌∷◌, Option, Some, None, refl, arith}
use Rattle.std.specs.Prelude.{◌||◌}
use Rattle.gl_base.specs.Texts.{Text}
use Rattle.gl_ast.specs.Template as t
use Rattle.gl_meaning.specs.App.{App}
use Rattle.gl_meaning.specs.Path.{at, main, otherwise, items, into, slot, Path}
use Rattle.gl_meaning.specs.Eval.{Store, class_at, takes_first}
use Rattle.gl_meaning.specs.Render.{entries, values_listed, Block, block_named}
use Rattle.gl_plain.specs.Ids.{Id, ref, node, modifier_id, hit, occurs}
use Rattle.gl_plain.specs.State.{MScope, mscope, MPassed, mnothing, mpassed, passed_in, mslots, mwriter, named_as, with_names, Thing, State, dropped}
use Rattle.gl_plain.specs.Binding.{first_value}
use Rattle.gl_plain.specs.Live.{AttrSpot, ModSpot, Live, Lives, Items, times, times_in, times_items, times_comment, times_attrs, times_mods, is_deep, are_deep}
use Rattle.gl_plain.specs.Live
use Rattle.gl_plain.specs.Grow.{or_comment, grow_entries}
use Rattle.gl_plain.specs.Renew.{spot_pairs, reread, renew_text, renew_attrs, renew_mods, times_handles, sync, where_block, fresh_body, fresh_items, renew, renew_body, handles}
use Rattle.gl_plain.specs.Stands.{Owned}
use Rattle.gl_plain.proofs.Moves.{hit_self, left_owned, right_owned, same_owned}
use Rattle.gl_kept.specs.Around.{AllIn, AllThere, with_made, AttrsThere, ModsThere, There, ThereIn, ThereItems}
use Rattle.gl_kept.proofs.Frames.{Frame, both, next, first_stays, second_stays, rest_owned, under, always}
use Rattle.gl_kept.proofs.Stays.{same_eases, all_stay, spot_stays, comment_stays, attrs_stay, mods_stay, stay, stay_in, stay_items, thing_same}
use Rattle.gl_kept.proofs.Binds.{made_wider, ScopeIn, PassedIn, scope_more}
use Rattle.gl_kept.proofs.Grows.{or_left, or_right, named_in}
use Rattle.gl_kept.proofs.Calms.{AttrsCounted, ModsCounted, reread_calm, text_calm, attrs_calm, mods_calm}
use Rattle.gl_kept.proofs.Renews.{named_scope, beside_idle, idle_beside, beside_stays, calm_owned, soft_eases, Renewed, RenewedIn, calm_renewed, idle_renewed, idle_in, flipped, kept_arm, if_done, list_done, HandlesThere, AllGo, sync_done, recount_items, fresh_list, fresh_item}

attrs_counted : (app : App) (look : Id → Option Thing) (around count : Id → ℕ) (xs : List AttrSpot) → AttrsThere app look around xs → ((q : Id) → times_attrs q xs ≤ count q) → AttrsCounted count xs
attrs_counted app look around count [] h le = tt
attrs_counted app look around count (a ∷ xs) h le =
    ((let k = le (ref a.spot.ref) in let w = h.0.0 in omega (arith, k, w)), attrs_counted app look around count xs h.1 (λ q. let k = le q in omega (arith, k)))

mods_counted : (app : App) (look : Id → Option Thing) (around count : Id → ℕ) (zs : List ModSpot) → ModsThere app look around zs → ((q : Id) → times_mods q zs ≤ count q) → ModsCounted count zs
mods_counted app look around count [] h le = tt
mods_counted app look around count (z ∷ zs) h le = (
  (let k = le (modifier_id z.id) in let w = hit_self (modifier_id z.id) in omega (arith, k, w)),
  (let k = le (ref z.spot.ref) in let w = h.1.0 in omega (arith, k, w)),
  mods_counted app look around count zs h.2 (λ q. let k = le q in omega (arith, k)),
)

-- no block, or one
block_done : (app : App) (τ : Store) (around : Id → ℕ) (o : Option Block) (F : Block → Lives × State) (ls : Lives) (st : State) → RenewedIn app τ around st ls (ls, st) → ((c : Block) → RenewedIn app τ around st ls (F c)) → RenewedIn app τ around st ls (where_block o F (ls, st))
block_done app τ around None F ls st h g = h
block_done app τ around (Some c) F ls st h g = g c

module _ (app : App) (τ : Store) where
  -- what is in a `let`, a component or a block
  inner_done : (around : Id → ℕ) (st : State) (made : List Id) (ls : Lives) (r : Lives × State) → Owned st (λ q. occurs q made + times_in q ls) → AllThere st.look around made → RenewedIn app τ (with_made made around) st ls r
      → Frame (are_deep r.0 ≡ false) st r.1 (λ q. occurs q made + times_in q ls) (λ q. occurs q made + times_in q r.0) × AllThere r.1.look around made
  inner_done around st made ls r o h g =
      let G = are_deep r.0 ≡ false in
      let cm : Id → ℕ = λ q. occurs q made in
      let cl : Id → ℕ = λ q. times_in q ls in
      let cr : Id → ℕ = λ q. times_in q r.0 in (
        beside_idle G st r.1 cm cl cr o g.frame,
        all_stay st.look r.1.look around made (same_eases st.look r.1.look cm (beside_stays G st r.1 cm cl cr o g.frame)) h,
      )

  handles_count : (m : ℕ) (c : t.Body) (is : Items) (q : Id) → times_handles q (handles app τ m c is) ≡ times_items q is
  handles_count m c Live.no_items q = refl
  handles_count m c (Live.item_live z k ls is) q = let h = handles_count m c is q in omega (arith, h)

  handles_there : (m : ℕ) (c : t.Body) (look : Id → Option Thing) (around : Id → ℕ) (is : Items) → ThereItems app look around is → HandlesThere app τ look around (handles app τ m c is)
  handles_there m c look around Live.no_items h = tt
  handles_there m c look around (Live.item_live z k ls is) h = (h.0, handles_there m c look around is h.1)

  writer_in : (around : Id → ℕ) (ms : MScope) → ScopeIn app around ms → PassedIn app around (passed_in ms)
  writer_in around (mscope i a l w) h = h.3

  -- a yielded block, given what is done in any scope
  yield_done : (m : ℕ) (inside : Id → ℕ) (w : MPassed) → PassedIn app inside w → (n : Text) (p : Path) (rs : List ℕ) → AllIn inside rs
      → (ls : Lives) (st : State) → ThereIn app st.look inside ls → Owned st (λ q. times_in q ls)
      → ((b : Block) (ms : MScope) → ScopeIn app inside ms → RenewedIn app τ inside st ls (renew_body app τ m ms (slot n ∷ p) 0 b.body ls st))
      → RenewedIn app τ inside st ls (where_block (block_named n (mslots w)) (λ b. renew_body app τ m (with_names (named_as b.params rs) (mwriter w)) (slot n ∷ p) 0 b.body ls st) (ls, st))
  yield_done m inside mnothing s n p rs e ls st h o go = idle_in app τ inside st ls o h
  yield_done m inside (mpassed k ps bs w) s n p rs e ls st h o go =
      block_done app τ inside (block_named n bs) (λ b. renew_body app τ m (with_names (named_as b.params rs) w) (slot n ∷ p) 0 b.body ls st) ls st (idle_in app τ inside st ls o h)
      (λ b. go b (with_names (named_as b.params rs) w) (named_scope app inside inside (λ q. omega arith) w (named_as b.params rs) s (named_in app inside b.params rs e)))

  mutual
    pub renew_done : (m : ℕ) (around : Id → ℕ) (ms : MScope) (p : Path) (x : t.Stmt) (l : Live) (st : State) → ScopeIn app around ms → There app st.look around l → Owned st (λ q. times q l)
        → Renewed app τ around st l (renew app τ m ms p x l st)
    renew_done m around ms p (t.put e) (Live.put_live n z) st s h o =
        calm_renewed app τ around st (renew_text n z.ref st) (Live.put_live n z)
        (text_calm st (λ q. times q (Live.put_live n z)) n z.ref o.old (let w = hit_self (node n) in omega (arith, w)) (let w = h.1.0 in omega (arith, w))) h
    renew_done m around ms p (t.element tag ps b) (Live.element_live n made xs zs ls) st s h o =
        let W : Id → ℕ = λ q. times q (Live.element_live n made xs zs ls) in
        let st1 = renew_attrs n xs st in
        let inside = with_made made around in
        let m1 = attrs_calm W n xs st o.old (let w = hit_self (node n) in omega (arith, w)) (attrs_counted app st.look inside W xs h.2 (λ q. omega arith)) in
        let o1 = calm_owned st st1 W o m1 in
        let cc : Id → ℕ = λ q. hit q (node n) + (occurs q made + times_attrs q xs) in
        let cl : Id → ℕ = λ q. times_in q ls in
        let cm : Id → ℕ = λ q. times_mods q zs in
        let ol = right_owned st1 cc (λ q. cl q + cm q) o1 in
        let r = renew_body app τ m ms p 0 b ls st1 in
        let g = body_done m around ms p 0 b ls st1 s (stay_in app st.look st1.look around ls (soft_eases st.look st1.look cl m1.softer) h.4) (left_owned st1 cl cm ol) in
        let G = are_deep r.0 ≡ false in
        let cr : Id → ℕ = λ q. times_in q r.0 in
        let f1 = idle_beside G st1 r.1 cl cr cm ol g.frame in
        let f2 = beside_idle G st1 r.1 cc (λ q. cl q + cm q) (λ q. cr q + cm q) o1 f1 in
        let W' : Id → ℕ = λ q. cc q + (cr q + cm q) in
        let same_c = beside_stays G st1 r.1 cc (λ q. cl q + cm q) (λ q. cr q + cm q) o1 f1 in
        let same_m = second_stays G st1 r.1 cl cr cm ol g.frame in
        let st3 = renew_mods zs r.1 in
        let m3 = mods_calm W' zs r.1 f2.old (mods_counted app st.look inside W' zs h.3 (λ q. omega arith)) in
        let n_there = thing_same (λ q. 0) Rattle.gl_plain.specs.Ids.a_node (st1.look (node n)) (r.1.look (node n)) (same_c (node n) (let w = hit_self (node n) in omega (arith, w))) (m1.softer (node n) (λ q. 0) h.0) in
        let made1 = all_stay st1.look r.1.look around made (λ q w. same_eases st1.look r.1.look cc same_c q (omega (arith, w))) (all_stay st.look st1.look around made (λ q w. m1.softer q) h.1) in
        let xs1 = attrs_stay app st1.look r.1.look inside xs (λ q w. same_eases st1.look r.1.look cc same_c q (omega (arith, w))) (attrs_stay app st.look st1.look inside xs (λ q w. m1.softer q) h.2) in
        let zs1 = mods_stay app st1.look r.1.look inside zs (same_eases st1.look r.1.look cm same_m) (mods_stay app st.look st1.look inside zs (λ q w. m1.softer q) h.3) in
        record {
          frame = next G st r.1 st3 W W' W' (next G st st1 r.1 W W W' (always G st st1 W W m1.frame) f2) (always G r.1 st3 W' W' m3.frame);
          there = (
            m3.softer (node n) (λ q. 0) n_there,
            all_stay r.1.look st3.look around made (λ q w. m3.softer q) made1,
            attrs_stay app r.1.look st3.look inside xs (λ q w. m3.softer q) xs1,
            mods_stay app r.1.look st3.look inside zs (λ q w. m3.softer q) zs1,
            stay_in app r.1.look st3.look around r.0 (λ q w. m3.softer q) g.there,
          );
        }
    renew_done m around ms p (t.if_stmt e unless b c) (Live.branch_live z true k ls) st s h o =
        let cz : Id → ℕ = λ q. occurs q z.made in
        let ca : Id → ℕ = λ q. times_in q ls + times_comment q k in
        let st1 = reread z.ref st in
        let m1 = reread_calm st cz z.ref (left_owned st cz ca o).old h.0.0 in
        let o1 = rest_owned (Unit {0}) st st1 cz cz ca o m1.frame in
        let r = renew_body app τ m ms (main ∷ p) 0 b ls st1 in
        let g = body_done m around ms (main ∷ p) 0 b ls st1 s (stay_in app st.look st1.look around ls (λ q w. m1.softer q) h.2) (left_owned st1 (λ q. times_in q ls) (λ q. times_comment q k) o1) in
        let d = if_done app τ around (takes_first unless (first_value (spot_pairs st1 z.ref))) z st st1 ca (record { comment = k; lives = r.0; state = r.1 }) (or_comment (fresh_body app τ m ms (otherwise ∷ p) c (dropped ca st1))) o m1.frame
        (spot_stays app st.look st1.look around z (λ q w. m1.softer q) h.0)
        (kept_arm app τ around st1 k ls r o1 (comment_stays app st.look st1.look k (λ q w. m1.softer q) h.1) g)
        (flipped app τ m around ms s (otherwise ∷ p) c ca st1) in
        record { frame = d.0; there = d.1 }
    renew_done m around ms p (t.if_stmt e unless b c) (Live.branch_live z false k ls) st s h o =
        let cz : Id → ℕ = λ q. occurs q z.made in
        let ca : Id → ℕ = λ q. times_in q ls + times_comment q k in
        let st1 = reread z.ref st in
        let m1 = reread_calm st cz z.ref (left_owned st cz ca o).old h.0.0 in
        let o1 = rest_owned (Unit {0}) st st1 cz cz ca o m1.frame in
        let r = renew_body app τ m ms (otherwise ∷ p) 0 c ls st1 in
        let g = body_done m around ms (otherwise ∷ p) 0 c ls st1 s (stay_in app st.look st1.look around ls (λ q w. m1.softer q) h.2) (left_owned st1 (λ q. times_in q ls) (λ q. times_comment q k) o1) in
        let d = if_done app τ around (takes_first unless (first_value (spot_pairs st1 z.ref))) z st st1 ca (or_comment (fresh_body app τ m ms (main ∷ p) b (dropped ca st1))) (record { comment = k; lives = r.0; state = r.1 }) o m1.frame
        (spot_stays app st.look st1.look around z (λ q w. m1.softer q) h.0)
        (flipped app τ m around ms s (main ∷ p) b ca st1)
        (kept_arm app τ around st1 k ls r o1 (comment_stays app st.look st1.look k (λ q w. m1.softer q) h.1) g) in
        record { frame = d.0; there = d.1 }
    renew_done m around ms p (t.each e key ns b c) (Live.listed z is) st s h o =
        let cz : Id → ℕ = λ q. occurs q z.made in
        let ca : Id → ℕ = λ q. times_items q is in
        let hs = handles app τ m b is in
        let ch : Id → ℕ = λ q. times_handles q hs in
        let st1 = reread z.ref st in
        let m1 = reread_calm st cz z.ref (left_owned st cz ca o).old h.0.0 in
        let o1 = rest_owned (Unit {0}) st st1 cz cz ca o m1.frame in
        let oh = same_owned st1 ca ch (λ q. let e = handles_count m b is q in omega (arith, e)) o1 in
        let there = handles_there m b st1.look around is (stay_items app st.look st1.look around is (λ q w. m1.softer q) h.1) in
        let go = handles_go m b is in
        let d = list_done app τ around (values_listed (first_value (spot_pairs st1 z.ref))) z st st1 ca
        (λ vs. sync (fresh_items app τ m ms ns b) ns ms (items ∷ p) (entries key 0 [] vs) hs st1) (or_comment (fresh_body app τ m ms (otherwise ∷ p) c (dropped ca st1))) o m1.frame
        (spot_stays app st.look st1.look around z (λ q w. m1.softer q) h.0)
        (λ vs. recount_items app τ around st1 ca ch _ (λ q. let e = handles_count m b is q in omega (arith, e))
        (sync_done app τ around ms s ns (items ∷ p) (fresh_items app τ m ms ns b) (λ q x st'. fresh_item app τ m around ms s ns b q x st') (entries key 0 [] vs) hs st1 go there oh))
        (flipped app τ m around ms s (otherwise ∷ p) c ca st1) in
        record { frame = d.0; there = d.1 }
    renew_done m around ms p (t.each e key ns b c) (Live.unlisted z k ls) st s h o =
        let cz : Id → ℕ = λ q. occurs q z.made in
        let ca : Id → ℕ = λ q. times_in q ls + times_comment q k in
        let st1 = reread z.ref st in
        let m1 = reread_calm st cz z.ref (left_owned st cz ca o).old h.0.0 in
        let o1 = rest_owned (Unit {0}) st st1 cz cz ca o m1.frame in
        let r = renew_body app τ m ms (otherwise ∷ p) 0 c ls st1 in
        let g = body_done m around ms (otherwise ∷ p) 0 c ls st1 s (stay_in app st.look st1.look around ls (λ q w. m1.softer q) h.2) (left_owned st1 (λ q. times_in q ls) (λ q. times_comment q k) o1) in
        let d = list_done app τ around (values_listed (first_value (spot_pairs st1 z.ref))) z st st1 ca
        (λ vs. grow_entries (fresh_items app τ m ms ns b) (items ∷ p) (entries key 0 [] vs) (dropped ca st1)) (record { comment = k; lives = r.0; state = r.1 }) o m1.frame
        (spot_stays app st.look st1.look around z (λ q w. m1.softer q) h.0)
        (λ vs. fresh_list app τ m around ms s ns (items ∷ p) b (entries key 0 [] vs) ca st1)
        (kept_arm app τ around st1 k ls r o1 (comment_stays app st.look st1.look k (λ q w. m1.softer q) h.1) g) in
        record { frame = d.0; there = d.1 }
    renew_done m around ms p (t.let_stmt es ns b) (Live.let_live made rs ls) st s h o =
        let inside = with_made made around in
        let r = renew_body app τ m (with_names (named_as ns rs) ms) (main ∷ p) 0 b ls st in
        let g = body_done m inside (with_names (named_as ns rs) ms) (main ∷ p) 0 b ls st (named_scope app around inside (made_wider around made) ms (named_as ns rs) s (named_in app inside ns rs h.1)) h.2 (right_owned st (λ q. occurs q made) (λ q. times_in q ls) o) in
        let d = inner_done around st made ls r o h.0 g in
        record { frame = d.0; there = (d.1, h.1, g.there) }
    renew_done (suc m) around ms p (t.component_stmt c ps given bs) (Live.component_live i made gm args (Some k) ls) st s h o =
        let inside = with_made made around in
        let up = scope_more app around inside (made_wider around made) ms s in
        let inner = mscope i args [] (mpassed k ps bs ms) in
        let r = renew_body app τ m inner (into c ∷ p) 0 (class_at app (into c ∷ p)).template ls st in
        let g = body_done m inside inner (into c ∷ p) 0 (class_at app (into c ∷ p)).template ls st ((λ x e. let w = h.1 x e in omega (arith, w)), h.2, tt, up) h.3 (right_owned st (λ q. occurs q made) (λ q. times_in q ls) o) in
        let d = inner_done around st made ls r o h.0 g in
        record { frame = d.0; there = (d.1, h.1, h.2, g.there) }
    renew_done m around ms p (t.yield es n) (Live.yield_live k made rs ls) st s h o =
        let inside = with_made made around in
        let F : Block → Lives × State = λ b. renew_body app τ m (with_names (named_as b.params rs) (mwriter (passed_in ms))) (slot n ∷ p) 0 b.body ls st in
        let r = where_block (block_named n (mslots (passed_in ms))) F (ls, st) in
        let ol = right_owned st (λ q. occurs q made) (λ q. times_in q ls) o in
        let g = yield_done m inside (passed_in ms) (writer_in inside ms (scope_more app around inside (made_wider around made) ms s)) n p rs h.1 ls st h.2 ol (λ b ms' s'. body_done m inside ms' (slot n ∷ p) 0 b.body ls st s' h.2 ol) in
        let d = inner_done around st made ls r o h.0 g in
        record { frame = d.0; there = (d.1, h.1, g.there) }
    renew_done m around ms p _ l st s h o = idle_renewed app τ around st l o h

    pub body_done : (m : ℕ) (around : Id → ℕ) (ms : MScope) (p : Path) (i : ℕ) (c : t.Body) (ls : Lives) (st : State) → ScopeIn app around ms → ThereIn app st.look around ls → Owned st (λ q. times_in q ls)
        → RenewedIn app τ around st ls (renew_body app τ m ms p i c ls st)
    body_done m around ms p i (t.stmt x c) (Live.live_and l ls) st s h o =
        let ca : Id → ℕ = λ q. times q l in
        let cb : Id → ℕ = λ q. times_in q ls in
        let r = renew app τ m ms (at i ∷ p) x l st in
        let g = renew_done m around ms (at i ∷ p) x l st s h.0 (left_owned st ca cb o) in
        let Gl = is_deep r.0 ≡ false in
        let ca' : Id → ℕ = λ q. times q r.0 in
        let z = renew_body app τ m ms p (suc i) c ls r.1 in
        let k = body_done m around ms p (suc i) c ls r.1 s (stay_in app st.look r.1.look around ls (same_eases st.look r.1.look cb (second_stays Gl st r.1 ca ca' cb o g.frame)) h.1) (rest_owned Gl st r.1 ca ca' cb o g.frame) in
        let cb' : Id → ℕ = λ q. times_in q z.0 in
        let G = (is_deep r.0 || are_deep z.0) ≡ false in
        let f = under Gl G st r.1 ca ca' (or_left (is_deep r.0) (are_deep z.0)) g.frame in
        let n = under (are_deep z.0 ≡ false) G r.1 z.1 cb cb' (or_right (is_deep r.0) (are_deep z.0)) k.frame in
        record {
          frame = both G st r.1 z.1 ca ca' cb cb' f n;
          there = (stay app r.1.look z.1.look around r.0 (same_eases r.1.look z.1.look ca' (first_stays G st r.1 z.1 ca ca' cb cb' o f n)) g.there, k.there);
        }
    body_done m around ms p i _ ls st s h o = idle_in app τ around st ls o h

    handles_go : (m : ℕ) (c : t.Body) (is : Items) → AllGo app τ (handles app τ m c is)
    handles_go m c Live.no_items = tt
    handles_go m c (Live.item_live z k ls is) = ((λ around ms q st s h o. body_done m around ms q 0 c ls st s h o), handles_go m c is)
