-- What is updated is there, reads what stands around it, and leaves nothing behind.
use Rattle.std.proofs.Common.{◌≡◌, ℕ, ◌+◌, ◌<◌, Bool, true, false, List, [], ◌∷◌, Option, Some, None, cond, refl, arith}
use Rattle.std.specs.Prelude.{if◌then◌else◌, ◌||◌}
use Rattle.gl_base.specs.Texts.{Text}
use Rattle.gl_value.specs.Value.{Values, no_values, value, count_value}
use Rattle.gl_ast.specs.Template as t
use Rattle.gl_meaning.specs.App.{App}
use Rattle.gl_meaning.specs.Path.{item, Path}
use Rattle.gl_meaning.specs.Scope.{item_value, item_index}
use Rattle.gl_meaning.specs.Eval.{Store}
use Rattle.gl_meaning.specs.Render.{Entry}
use Rattle.gl_plain.specs.Ids.{Id, ref, occurs}
use Rattle.gl_plain.specs.State.{Names, MScope, mscope, with_names, refs_of, Thing, State, dropped}
use Rattle.gl_plain.specs.Binding.{Spot}
use Rattle.gl_plain.specs.Live.{AttrSpot, ModSpot, ItemSpot, Live, Lives, Items, item_names, item_made, times, times_in, times_items, times_comment, times_attrs, times_mods, is_deep, are_deep, items_deep}
use Rattle.gl_plain.specs.Live
use Rattle.gl_plain.specs.Grow.{Arm, or_comment, ItemGrown, grow_entries, branch_from, listed_from, unlisted_from, grow_components, grow_yields}
use Rattle.gl_plain.specs.Renew.{give, Handle, times_handle, times_handles, is_of, with_front, taken, renew_item, sync_one, sync, where_values, fresh_body, fresh_items}
use Rattle.gl_plain.specs.Stands.{Owned}
use Rattle.gl_plain.proofs.Moves.{hit_self, left_owned, right_owned, same_owned}
use Rattle.gl_kept.specs.Around.{AllIn, with_made, AllThere, SpotThere, CommentThere, There, ThereIn, ThereItems}
use Rattle.gl_kept.proofs.Frames.{Frame, both, next, recount, idle, first_stays, second_stays, rest_owned, under, always, drop_frame}
use Rattle.gl_kept.proofs.Stays.{Wider, Eases, same_eases, all_stay, spot_stays, comment_stays, stay, stay_in}
use Rattle.gl_kept.proofs.Binds.{made_wider, ScopeIn, local_in}
use Rattle.gl_kept.proofs.Grows.{or_left, or_right, ArmNew, arm_new, named_in, ItemNew, item_new, entries_new, components_new, yields_new, body_new}
use Rattle.gl_kept.proofs.Calms.{Softer, Calm, then_calm, give_calm}

-- further parameters
pub named_scope : (app : App) (c d : Id → ℕ) → Wider c d → (ms : MScope) (names : Names) → ScopeIn app c ms → AllIn d (refs_of names) → ScopeIn app d (with_names names ms)
named_scope app c d f (mscope i a l w) names s h = local_in app c d f i a l names w s h

-- the rest of a part is idle
pub beside_idle : (G : Type 0) (st st' : State) (c a a' : Id → ℕ) → Owned st (λ q. c q + a q) → Frame G st st' a a' → Frame G st st' (λ q. c q + a q) (λ q. c q + a' q)
beside_idle G st st' c a a' o m = both G st st st' c c a a' (idle G st c (left_owned st c a o)) m

pub idle_beside : (G : Type 0) (st st' : State) (a a' c : Id → ℕ) → Owned st (λ q. a q + c q) → Frame G st st' a a' → Frame G st st' (λ q. a q + c q) (λ q. a' q + c q)
idle_beside G st st' a a' c o m = both G st st' st' a a' c c m (idle G st' c (rest_owned G st st' a a' c o m))

pub beside_stays : (G : Type 0) (st st' : State) (c a a' : Id → ℕ) → Owned st (λ q. c q + a q) → Frame G st st' a a' → (q : Id) → 0 < c q → st'.look q ≡ st.look q
beside_stays G st st' c a a' o m = second_stays G st st' a a' c (same_owned st (λ q. c q + a q) (λ q. a q + c q) (λ q. omega arith) o) m

pub calm_owned : (st st' : State) (count : Id → ℕ) → Owned st count → Calm st st' count → Owned st' count
calm_owned st st' count o m = record { once = o.once; old = m.frame.old }

pub soft_eases : (look look' : Id → Option Thing) (count : Id → ℕ) → Softer look look' → Eases look look' count
soft_eases look look' count s = λ q w c h. s q c h

module _ (app : App) (τ : Store) where
  pub record Renewed (around : Id → ℕ) (st : State) (l : Live) (r : Live × State) : Type 0 where
    pub frame : Frame (is_deep r.0 ≡ false) st r.1 (λ q. times q l) (λ q. times q r.0)
    pub there : There app r.1.look around r.0

  pub record RenewedIn (around : Id → ℕ) (st : State) (ls : Lives) (r : Lives × State) : Type 0 where
    pub frame : Frame (are_deep r.0 ≡ false) st r.1 (λ q. times_in q ls) (λ q. times_in q r.0)
    pub there : ThereIn app r.1.look around r.0

  pub record ItemsDone (around : Id → ℕ) (st : State) (count : Id → ℕ) (r : Items × State) : Type 0 where
    pub frame : Frame (items_deep r.0 ≡ false) st r.1 count (λ q. times_items q r.0)
    pub there : ThereItems app r.1.look around r.0

  pub record ArmDone (around : Id → ℕ) (st : State) (count : Id → ℕ) (a : Arm) : Type 0 where
    pub frame : Frame (are_deep a.lives ≡ false) st a.state count (λ q. times_in q a.lives + times_comment q a.comment)
    pub comment : CommentThere app a.state.look a.comment
    pub there : ThereIn app a.state.look around a.lives

  pub record ItemDone (around : Id → ℕ) (st : State) (count : Id → ℕ) (g : ItemGrown) : Type 0 where
    pub frame : Frame (are_deep g.arm.lives ≡ false) st g.arm.state count (λ q. occurs q (item_made g.spot) + (times_in q g.arm.lives + times_comment q g.arm.comment))
    pub made : AllThere g.arm.state.look around (item_made g.spot)
    pub params : AllIn (with_made (item_made g.spot) around) g.spot.params
    pub comment : CommentThere app g.arm.state.look g.arm.comment
    pub there : ThereIn app g.arm.state.look (with_made (item_made g.spot) around) g.arm.lives

  pub calm_renewed : (around : Id → ℕ) (st st' : State) (l : Live) → Calm st st' (λ q. times q l) → There app st.look around l → Renewed around st l (l, st')
  calm_renewed around st st' l m h = record {
    frame = always (is_deep l ≡ false) st st' (λ q. times q l) (λ q. times q l) m.frame;
    there = stay app st.look st'.look around l (soft_eases st.look st'.look (λ q. times q l) m.softer) h;
  }

  pub idle_renewed : (around : Id → ℕ) (st : State) (l : Live) → Owned st (λ q. times q l) → There app st.look around l → Renewed around st l (l, st)
  idle_renewed around st l o h = record { frame = idle (is_deep l ≡ false) st (λ q. times q l) o; there = h }

  pub idle_in : (around : Id → ℕ) (st : State) (ls : Lives) → Owned st (λ q. times_in q ls) → ThereIn app st.look around ls → RenewedIn around st ls (ls, st)
  idle_in around st ls o h = record { frame = idle (are_deep ls ≡ false) st (λ q. times_in q ls) o; there = h }

  -- Branches

  pub fresh_arm : (m : ℕ) (around : Id → ℕ) (ms : MScope) → ScopeIn app around ms → (p : Path) (c : t.Body) (st : State) → ArmNew app around st (or_comment (fresh_body app τ m ms p c st))
  fresh_arm m around (mscope i a l v) s p c st =
      let d = grow_components m app τ in
      let hd = components_new m app τ in
      arm_new app around st (fresh_body app τ m (mscope i a l v) p c st) (body_new app d (grow_yields app d v) v hd (yields_new app d hd v) c around i a l s p 0 st)

  -- in place of what goes
  pub flipped : (m : ℕ) (around : Id → ℕ) (ms : MScope) → ScopeIn app around ms → (p : Path) (c : t.Body) (count : Id → ℕ) (st : State) → ArmDone around st count (or_comment (fresh_body app τ m ms p c (dropped count st)))
  flipped m around ms s p c count st =
      let st1 = dropped count st in
      let a = or_comment (fresh_body app τ m ms p c st1) in
      let g = fresh_arm m around ms s p c st1 in
      let G = are_deep a.lives ≡ false in
      record {
        frame = next G st st1 a.state count (λ q. 0) (λ q. times_in q a.lives + times_comment q a.comment) (always G st st1 count (λ q. 0) (drop_frame count st)) g.frame;
        comment = g.comment;
        there = g.there;
      }

  -- a body that goes on
  pub kept_arm : (around : Id → ℕ) (st : State) (k : Option ℕ) (ls : Lives) (r : Lives × State) → Owned st (λ q. times_in q ls + times_comment q k) → CommentThere app st.look k → RenewedIn around st ls r
      → ArmDone around st (λ q. times_in q ls + times_comment q k) (record { comment = k; lives = r.0; state = r.1 })
  kept_arm around st k ls r o h g =
      let G = are_deep r.0 ≡ false in
      let ca : Id → ℕ = λ q. times_in q ls in
      let ca' : Id → ℕ = λ q. times_in q r.0 in
      let ck : Id → ℕ = λ q. times_comment q k in
      record {
        frame = idle_beside G st r.1 ca ca' ck o g.frame;
        comment = comment_stays app st.look r.1.look k (same_eases st.look r.1.look ck (second_stays G st r.1 ca ca' ck o g.frame)) h;
        there = g.there;
      }

  -- what stands on a position that was read again
  branch_done : (around : Id → ℕ) (z : Spot) (u : Bool) (st st1 : State) (count : Id → ℕ) (a : Arm) → Owned st (λ q. occurs q z.made + count q) → Frame (Unit {0}) st st1 (λ q. occurs q z.made) (λ q. occurs q z.made) → SpotThere app st1.look around z
      → ArmDone around st1 count a → let r = branch_from z u a in Frame (is_deep r.0 ≡ false) st r.1 (λ q. occurs q z.made + count q) (λ q. times q r.0) × There app r.1.look around r.0
  branch_done around z u st st1 count a o m h k =
      let G = are_deep a.lives ≡ false in
      let cz : Id → ℕ = λ q. occurs q z.made in
      let ca : Id → ℕ = λ q. times_in q a.lives + times_comment q a.comment in
      let f = always G st st1 cz cz m in (
        both G st st1 a.state cz cz count ca f k.frame,
        (spot_stays app st1.look a.state.look around z (same_eases st1.look a.state.look cz (first_stays G st st1 a.state cz cz count ca o f k.frame)) h, k.comment, k.there),
      )

  pub if_done : (around : Id → ℕ) (u : Bool) (z : Spot) (st st1 : State) (count : Id → ℕ) (f g : Arm) → Owned st (λ q. occurs q z.made + count q) → Frame (Unit {0}) st st1 (λ q. occurs q z.made) (λ q. occurs q z.made) → SpotThere app st1.look around z
      → ArmDone around st1 count f → ArmDone around st1 count g
      → let r = cond {A = Live × State} u (branch_from z true f) (branch_from z false g) in Frame (is_deep r.0 ≡ false) st r.1 (λ q. occurs q z.made + count q) (λ q. times q r.0) × There app r.1.look around r.0
  if_done around true z st st1 count f g o m h hf hg = branch_done around z true st st1 count f o m h hf
  if_done around false z st st1 count f g o m h hf hg = branch_done around z false st st1 count g o m h hg

  pub list_done : (around : Id → ℕ) (vs : Values Path) (z : Spot) (st st1 : State) (count : Id → ℕ) (F : Values Path → Items × State) (g : Arm) → Owned st (λ q. occurs q z.made + count q)
      → Frame (Unit {0}) st st1 (λ q. occurs q z.made) (λ q. occurs q z.made) → SpotThere app st1.look around z → ((us : Values Path) → ItemsDone around st1 count (F us)) → ArmDone around st1 count g
      → let r = where_values vs (λ us. listed_from z (F us)) (unlisted_from z g) in Frame (is_deep r.0 ≡ false) st r.1 (λ q. occurs q z.made + count q) (λ q. times q r.0) × There app r.1.look around r.0
  list_done around no_values z st st1 count F a o m h hf k =
      let G = are_deep a.lives ≡ false in
      let cz : Id → ℕ = λ q. occurs q z.made in
      let ca : Id → ℕ = λ q. times_in q a.lives + times_comment q a.comment in
      let f = always G st st1 cz cz m in (
        both G st st1 a.state cz cz count ca f k.frame,
        (spot_stays app st1.look a.state.look around z (same_eases st1.look a.state.look cz (first_stays G st st1 a.state cz cz count ca o f k.frame)) h, k.comment, k.there),
      )
  list_done around (value u us) z st st1 count F a o m h hf k' =
      let r = F (value u us) in
      let k = hf (value u us) in
      let G = items_deep r.0 ≡ false in
      let cz : Id → ℕ = λ q. occurs q z.made in
      let ca : Id → ℕ = λ q. times_items q r.0 in
      let f = always G st st1 cz cz m in (
        both G st st1 r.1 cz cz count ca f k.frame,
        (spot_stays app st1.look r.1.look around z (same_eases st1.look r.1.look cz (first_stays G st st1 r.1 cz cz count ca o f k.frame)) h, k.there),
      )

  -- Items

  abbrev pub HandleThere : (Id → Option Thing) → (Id → ℕ) → Handle → Type 0
  HandleThere look around h =
      AllThere look around (item_made h.spot) × AllIn (with_made (item_made h.spot) around) h.spot.params × CommentThere app look h.comment × ThereIn app look (with_made (item_made h.spot) around) h.lives

  abbrev pub HandlesThere : (Id → Option Thing) → (Id → ℕ) → List Handle → Type 0
  HandlesThere look around [] = Unit {0}
  HandlesThere look around (h ∷ hs) = HandleThere look around h × HandlesThere look around hs

  abbrev pub GoesWell : Handle → Type 0
  GoesWell h =
      (around : Id → ℕ) (ms : MScope) (q : Path) (st : State) → ScopeIn app around ms → ThereIn app st.look around h.lives → Owned st (λ r. times_in r h.lives) → RenewedIn around st h.lives (h.go ms q st)

  abbrev pub AllGo : List Handle → Type 0
  AllGo [] = Unit {0}
  AllGo (h ∷ hs) = GoesWell h × AllGo hs

  handles_stay : (look look' : Id → Option Thing) (around : Id → ℕ) (hs : List Handle) → Eases look look' (λ q. times_handles q hs) → HandlesThere look around hs → HandlesThere look' around hs
  handles_stay look look' around [] e k = tt
  handles_stay look look' around (h ∷ hs) e k = (
    (
      all_stay look look' around (item_made h.spot) (λ q w. e q (omega (arith, w))) k.0.0,
      k.0.1,
      comment_stays app look look' h.comment (λ q w. e q (omega (arith, w))) k.0.2,
      stay_in app look look' (with_made (item_made h.spot) around) h.lives (λ q w. e q (omega (arith, w))) k.0.3,
    ),
    handles_stay look look' around hs (λ q w. e q (omega (arith, w))) k.1,
  )

  -- the item of a key, and the others
  abbrev Parted : List Handle → Option (Handle × List Handle) → Type 0
  Parted olds None = Unit {0}
  Parted olds (Some o) =
      ((q : Id) → times_handles q olds ≡ times_handle q o.0 + times_handles q o.1)
      × ((look : Id → Option Thing) (around : Id → ℕ) → HandlesThere look around olds → HandleThere look around o.0 × HandlesThere look around o.1)
      × (AllGo olds → GoesWell o.0 × AllGo o.1)

  parted_by : (h : Handle) (hs : List Handle) (is : Bool) (o : Option (Handle × List Handle)) → Parted hs o → Parted (h ∷ hs) (if is then Some (h, hs) else with_front h o)
  parted_by h hs true o k = ((λ q. refl), (λ look around g. g), (λ g. g))
  parted_by h hs false None k = tt
  parted_by h hs false (Some o) k = (
    (λ q. let i = k.0 q in omega (arith, i)),
    (λ look around g. let i = k.1 look around g.1 in (i.0, (g.0, i.1))),
    (λ g. let i = k.2 g.1 in (i.0, (g.0, i.1))),
  )

  parted : (x : Entry) (olds : List Handle) → Parted olds (taken x olds)
  parted x [] = tt
  parted x (h ∷ hs) = parted_by h hs (is_of x h) (taken x hs) (parted x hs)

  -- an old item
  item_renewed : (around : Id → ℕ) (ms : MScope) → ScopeIn app around ms → (ns : List Text) (q : Path) (x : Entry) (h : Handle) (st : State) → GoesWell h → HandleThere st.look around h → Owned st (λ r. times_handle r h)
      → ItemDone around st (λ r. times_handle r h) (renew_item ns ms q x h st)
  item_renewed around ms s ns q x h st go k o =
      let ch : Id → ℕ = λ r. times_handle r h in
      let st1 = give h.spot.value (item_value q) x.value st in
      let st2 = give h.spot.index (item_index q) (count_value x.index) st1 in
      let m1 = give_calm st ch h.spot.value (item_value q) x.value o.old (let e = hit_self (ref h.spot.value) in omega (arith, e)) in
      let m2 = give_calm st1 ch h.spot.index (item_index q) (count_value x.index) m1.frame.old (let e = hit_self (ref h.spot.index) in omega (arith, e)) in
      let m = then_calm st st1 st2 ch m1 m2 in
      let o2 = calm_owned st st2 ch o m in
      let inside = with_made (item_made h.spot) around in
      let cm : Id → ℕ = λ r. occurs r (item_made h.spot) in
      let cl : Id → ℕ = λ r. times_in r h.lives in
      let ck : Id → ℕ = λ r. times_comment r h.comment in
      let ol = right_owned st2 cm (λ r. cl r + ck r) o2 in
      let r = h.go (with_names (item_names ns h.spot) ms) q st2 in
      let g = go inside (with_names (item_names ns h.spot) ms) q st2
      (named_scope app around inside (made_wider around (item_made h.spot)) ms (item_names ns h.spot) s (named_in app inside ns h.spot.params k.1))
      (stay_in app st.look st2.look inside h.lives (soft_eases st.look st2.look cl m.softer) k.3) (left_owned st2 cl ck ol) in
      let G = are_deep r.0 ≡ false in
      let cl' : Id → ℕ = λ j. times_in j r.0 in
      let f = idle_beside G st2 r.1 cl cl' ck ol g.frame in
      record {
        frame = next G st st2 r.1 ch ch (λ j. cm j + (cl' j + ck j)) (always G st st2 ch ch m.frame) (beside_idle G st2 r.1 cm (λ j. cl j + ck j) (λ j. cl' j + ck j) o2 f);
        made = all_stay st2.look r.1.look around (item_made h.spot) (same_eases st2.look r.1.look cm (beside_stays G st2 r.1 cm (λ j. cl j + ck j) (λ j. cl' j + ck j) o2 f))
            (all_stay st.look st2.look around (item_made h.spot) (soft_eases st.look st2.look cm m.softer) k.0);
        params = k.1;
        comment = comment_stays app st2.look r.1.look h.comment (same_eases st2.look r.1.look ck (second_stays G st2 r.1 cl cl' ck ol g.frame))
            (comment_stays app st.look st2.look h.comment (soft_eases st.look st2.look ck m.softer) k.2);
        there = g.there;
      }

  -- an item, and then the others
  items_then : (around : Id → ℕ) (st : State) (ca cb : Id → ℕ) (g : ItemGrown) (r : Items × State) → Owned st (λ q. ca q + cb q) → ItemDone around st ca g → ItemsDone around g.arm.state cb r
      → ItemsDone around st (λ q. ca q + cb q) (Live.item_live g.spot g.arm.comment g.arm.lives r.0, r.1)
  items_then around st ca cb g r o h k =
      let st1 = g.arm.state in
      let G = (are_deep g.arm.lives || items_deep r.0) ≡ false in
      let ca' : Id → ℕ = λ q. occurs q (item_made g.spot) + (times_in q g.arm.lives + times_comment q g.arm.comment) in
      let cb' : Id → ℕ = λ q. times_items q r.0 in
      let f = under (are_deep g.arm.lives ≡ false) G st st1 ca ca' (or_left (are_deep g.arm.lives) (items_deep r.0)) h.frame in
      let n = under (items_deep r.0 ≡ false) G st1 r.1 cb cb' (or_right (are_deep g.arm.lives) (items_deep r.0)) k.frame in
      let e = same_eases st1.look r.1.look ca' (first_stays G st st1 r.1 ca ca' cb cb' o f n) in
      record {
        frame = both G st st1 r.1 ca ca' cb cb' f n;
        there = (
          (
            all_stay st1.look r.1.look around (item_made g.spot) (λ q w. e q (omega (arith, w))) h.made,
            h.params,
            comment_stays app st1.look r.1.look g.arm.comment (λ q w. e q (omega (arith, w))) h.comment,
            stay_in app st1.look r.1.look (with_made (item_made g.spot) around) g.arm.lives (λ q w. e q (omega (arith, w))) h.there,
          ),
          k.there,
        );
      }

  pub recount_items : (around : Id → ℕ) (st : State) (a b : Id → ℕ) (r : Items × State) → ((q : Id) → a q ≡ b q) → ItemsDone around st b r → ItemsDone around st a r
  recount_items around st a b r e h = record {
    frame = recount (items_deep r.0 ≡ false) st r.1 a b (λ q. times_items q r.0) (λ q. times_items q r.0) e (λ q. refl) h.frame;
    there = h.there;
  }

  new_item : (around : Id → ℕ) (st : State) (g : ItemGrown) → ItemNew app around st g → ItemDone around st (λ q. 0) g
  new_item around st g h = record { frame = h.frame; made = h.made; params = h.params; comment = h.comment; there = h.there }

  pub sync_done : (around : Id → ℕ) (ms : MScope) → ScopeIn app around ms → (ns : List Text) (p : Path) (one : Path → Entry → State → ItemGrown) → ((q : Path) (x : Entry) (st : State) → ItemNew app around st (one q x st))
      → (xs : List Entry) (olds : List Handle) (st : State) → AllGo olds → HandlesThere st.look around olds → Owned st (λ q. times_handles q olds)
      → ItemsDone around st (λ q. times_handles q olds) (sync one ns ms p xs olds st)
  sync_done around ms s ns p one h1 [] olds st go k o = record {
    frame = always (false ≡ false) st (dropped (λ q. times_handles q olds) st) (λ q. times_handles q olds) (λ q. 0) (drop_frame (λ q. times_handles q olds) st);
    there = tt;
  }
  sync_done around ms s ns p one h1 (x ∷ xs) olds st go k o = by (taken x olds) (parted x olds) (sync_done around ms s ns p one h1 xs) where
    by : (t : Option (Handle × List Handle)) → Parted olds t
        → ((olds' : List Handle) (st' : State) → AllGo olds' → HandlesThere st'.look around olds' → Owned st' (λ q. times_handles q olds') → ItemsDone around st' (λ q. times_handles q olds') (sync one ns ms p xs olds' st'))
        → let g = sync_one one ns ms (item x.key x.occurrence ∷ p) x olds t st in let r = sync one ns ms p xs g.1 g.0.arm.state in
        ItemsDone around st (λ q. times_handles q olds) (Live.item_live g.0.spot g.0.arm.comment g.0.arm.lives r.0, r.1)
    by None e rec =
        let g = one (item x.key x.occurrence ∷ p) x st in
        let h = new_item around st g (h1 (item x.key x.occurrence ∷ p) x st) in
        let st1 = g.arm.state in
        let G = are_deep g.arm.lives ≡ false in
        let cb : Id → ℕ = λ q. times_handles q olds in
        let ca' : Id → ℕ = λ q. occurs q (item_made g.spot) + (times_in q g.arm.lives + times_comment q g.arm.comment) in
        let o0 = same_owned st cb (λ q. 0 + cb q) (λ q. omega arith) o in
        recount_items around st cb (λ q. 0 + cb q) _ (λ q. omega arith)
        (items_then around st (λ q. 0) cb g (sync one ns ms p xs olds st1) o0 h
        (rec olds st1 go (handles_stay st.look st1.look around olds (same_eases st.look st1.look cb (second_stays G st st1 (λ q. 0) ca' cb o0 h.frame)) k) (rest_owned G st st1 (λ q. 0) ca' cb o0 h.frame)))
    by (Some t) e rec =
        let ca : Id → ℕ = λ q. times_handle q t.0 in
        let cb : Id → ℕ = λ q. times_handles q t.1 in
        let o0 = same_owned st (λ q. times_handles q olds) (λ q. ca q + cb q) e.0 o in
        let gs = e.2 go in
        let ks = e.1 st.look around k in
        let g = renew_item ns ms (item x.key x.occurrence ∷ p) x t.0 st in
        let h = item_renewed around ms s ns (item x.key x.occurrence ∷ p) x t.0 st gs.0 ks.0 (left_owned st ca cb o0) in
        let st1 = g.arm.state in
        let G = are_deep g.arm.lives ≡ false in
        let ca' : Id → ℕ = λ q. occurs q (item_made g.spot) + (times_in q g.arm.lives + times_comment q g.arm.comment) in
        recount_items around st (λ q. times_handles q olds) (λ q. ca q + cb q) _ e.0
        (items_then around st ca cb g (sync one ns ms p xs t.1 st1) o0 h
        (rec t.1 st1 gs.1 (handles_stay st.look st1.look around t.1 (same_eases st.look st1.look cb (second_stays G st st1 ca ca' cb o0 h.frame)) ks.1) (rest_owned G st st1 ca ca' cb o0 h.frame)))

  pub fresh_item : (m : ℕ) (around : Id → ℕ) (ms : MScope) → ScopeIn app around ms → (ns : List Text) (c : t.Body) (q : Path) (x : Entry) (st : State) → ItemNew app around st (fresh_items app τ m ms ns c q x st)
  fresh_item m around (mscope i a l v) s ns c q x st =
      let d = grow_components m app τ in
      let hd = components_new m app τ in
      item_new app v (λ ms' q' st'. fresh_body app τ m ms' q' c st') (λ around' i' a' l' s' q' st'. body_new app d (grow_yields app d v) v hd (yields_new app d hd v) c around' i' a' l' s' q' 0 st') around i a l s ns q x st

  -- a list whose items are all new, in place of what goes
  pub fresh_list : (m : ℕ) (around : Id → ℕ) (ms : MScope) → ScopeIn app around ms → (ns : List Text) (p : Path) (c : t.Body) (xs : List Entry) (count : Id → ℕ) (st : State)
      → ItemsDone around st count (grow_entries (fresh_items app τ m ms ns c) p xs (dropped count st))
  fresh_list m around ms s ns p c xs count st =
      let st1 = dropped count st in
      let r = grow_entries (fresh_items app τ m ms ns c) p xs st1 in
      let g = entries_new app around (fresh_items app τ m ms ns c) (λ q x st'. fresh_item m around ms s ns c q x st') p xs st1 in
      let G = items_deep r.0 ≡ false in
      record { frame = next G st st1 r.1 count (λ q. 0) (λ q. times_items q r.0) (always G st st1 count (λ q. 0) (drop_frame count st)) g.frame; there = g.there }
