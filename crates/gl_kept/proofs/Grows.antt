-- What is appended is there, reads what stands around it, and leaves nothing behind.
use Rattle.std.proofs.Common.{◌≡◌, ℕ, zero, suc, ◌+◌, ◌<◌, Bool, true, false, true≢false, List, [], ◌∷◌, ◌++◌, Option, Some, None, cond, refl, ◌∙◌, arith}
use Rattle.std.specs.Prelude.{if◌then◌else◌, ◌||◌}
use Rattle.gl_base.specs.Texts.{Text}
use Rattle.gl_value.specs.Value.{Values, no_values, value, count_value, text_of}
use Rattle.gl_ast.specs.Template.{Plain}
use Rattle.gl_ast.specs.Template as t
use Rattle.gl_meaning.specs.App.{App}
use Rattle.gl_meaning.specs.Path.{at, main, otherwise, items, item, into, slot, Path}
use Rattle.gl_meaning.specs.Scope.{cell, item_value, item_index}
use Rattle.gl_meaning.specs.Eval.{Store, class_at, cell_value, takes_first}
use Rattle.gl_meaning.specs.Render.{Entry, entries, values_listed, Block, block_named}
use Rattle.gl_plain.specs.Ids.{a_ref, a_node, an_instance, a_block, Id, ref, node, block_id, instance_id, hit, occurs}
use Rattle.gl_plain.specs.State.{any_of, source_form, Names, Inst, MScope, mscope, MPassed, mnothing, mpassed, named_as, with_names, refs_of, Content, comment_content, text_content, element_content, content, instance_row, block_row, State, make}
use Rattle.gl_plain.specs.Binding.{Spot, made_row, bind_exprs, bind_args, bind_params, place, first_value}
use Rattle.gl_plain.specs.Tags.{bind_written, flush_parts, install_parts}
use Rattle.gl_plain.specs.Parts.{mwritten_parts}
use Rattle.gl_plain.specs.Live.{ItemSpot, Live, Lives, Items, have_node, item_names, item_made, times, times_in, times_items, times_comment, times_attrs, times_mods, is_deep, are_deep, items_deep}
use Rattle.gl_plain.specs.Live
use Rattle.gl_plain.specs.Grow.{made_node, Arm, or_comment, ItemGrown, item_spot, grow_item, grow_entries, branch_from, items_or_else, GrowComponents, GrowYields, grow_stmt, grow_body, grow_block, grow_yields, grow_cells, grow_components}
use Rattle.gl_plain.specs.Stands.{one_expr}
use Rattle.gl_plain.proofs.Moves.{make_at, hit_self}
use Rattle.gl_plain.proofs.Cells.{cells_stand}
use Rattle.gl_plain.proofs.Pairs.{right_occurs}
use Rattle.gl_kept.specs.Around.{AllIn, with_made, AllThere, CommentThere, There, ThereIn, ThereItems}
use Rattle.gl_kept.proofs.Frames.{New, new_both, recount, no_step, new_stays, make_new, under, always_new}
use Rattle.gl_kept.proofs.Stays.{Wider, all_more, thing_same, Eases, same_eases, all_stay, spot_stays, comment_stays, attrs_stay, mods_stay, stay_in, stay_items}
use Rattle.gl_kept.proofs.Binds.{Makes, made_wider, none_made, beside_made, row_makes, more_made, ScopeIn, PassedIn, passed_more, local_in, left_wider, bound_are, args_are, params_bound}
use Rattle.gl_kept.proofs.Tags.{place_new, written_scopes, written_are, flush_new, install_new}

pub or_left : (a b : Bool) → (a || b) ≡ false → a ≡ false
or_left false b e = refl
or_left true b e = absurd (true≢false e)

pub or_right : (a b : Bool) → (a || b) ≡ false → b ≡ false
or_right false b e = e
or_right true b e = absurd (true≢false e)

module _ (app : App) where
  pub record Grown (around : Id → ℕ) (st : State) (r : Live × State) : Type 0 where
    pub frame : New (is_deep r.0 ≡ false) st r.1 (λ q. times q r.0)
    pub there : There app r.1.look around r.0

  pub record GrownIn (around : Id → ℕ) (st : State) (r : Lives × State) : Type 0 where
    pub frame : New (are_deep r.0 ≡ false) st r.1 (λ q. times_in q r.0)
    pub there : ThereIn app r.1.look around r.0

  pub record ItemsNew (around : Id → ℕ) (st : State) (r : Items × State) : Type 0 where
    pub frame : New (items_deep r.0 ≡ false) st r.1 (λ q. times_items q r.0)
    pub there : ThereItems app r.1.look around r.0

  pub record ArmNew (around : Id → ℕ) (st : State) (a : Arm) : Type 0 where
    pub frame : New (are_deep a.lives ≡ false) st a.state (λ q. times_in q a.lives + times_comment q a.comment)
    pub comment : CommentThere app a.state.look a.comment
    pub there : ThereIn app a.state.look around a.lives

  pub arm_new : (around : Id → ℕ) (st : State) (r : Lives × State) → GrownIn around st r → ArmNew around st (or_comment r)
  arm_new around st r g = by (have_node r.0) where
    by : (u : Bool) → ArmNew around st (if u then record { comment = None; lives = r.0; state = r.1 } else record { comment = Some (r.1.next a_node); lives = r.0; state = made_node (comment_content []) r.1 })
    by true = record {
      frame = recount (are_deep r.0 ≡ false) st r.1 (λ q. 0) (λ q. 0) (λ q. times_in q r.0 + 0) (λ q. times_in q r.0) (λ q. refl) (λ q. omega arith) g.frame;
      comment = tt;
      there = g.there;
    }
    by false =
        let st' = made_node (comment_content []) r.1 in
        let n = always_new (are_deep r.0 ≡ false) r.1 st' (λ q. hit q (node (r.1.next a_node))) (make_new a_node (content (comment_content [])) r.1) in
        record {
          frame = new_both (are_deep r.0 ≡ false) st r.1 st' (λ q. times_in q r.0) (λ q. hit q (node (r.1.next a_node))) g.frame n;
          comment = thing_same (λ q. 0) a_node (Some (content (comment_content []))) (st'.look (node (r.1.next a_node))) (make_at a_node (content (comment_content [])) r.1) tt;
          there = stay_in app r.1.look st'.look around r.0
              (same_eases r.1.look st'.look (λ q. times_in q r.0) (new_stays (are_deep r.0 ≡ false) st r.1 st' (λ q. times_in q r.0) (λ q. hit q (node (r.1.next a_node))) g.frame n)) g.there;
        }

  -- what was there first, and then an arm or the like
  then_eases : (G : Type 0) (st st1 st2 : State) (a b : Id → ℕ) → New (Unit {0}) st st1 a → New G st1 st2 b → Eases st1.look st2.look a
  then_eases G st st1 st2 a b m n = same_eases st1.look st2.look a (new_stays G st st1 st2 a b (always_new G st st1 a m) n)

  -- Items

  spot_is : (around : Id → ℕ) (ns : List Text) (q : Path) (x : Entry) (st : State)
      → let z = item_spot ns q x st in Makes around st z.1 (item_made z.0) × AllIn (with_made (item_made z.0) around) z.0.params
  spot_is around ns q x st =
      let fv = source_form (item_value q) x.value in
      let fi = source_form (item_index q) (count_value x.index) in
      let st1 = made_row fv st in
      let v = st.next a_ref in
      let i = st1.next a_ref in
      let st2 = made_row fi st1 in
      let made2 = ref v ∷ ref i ∷ [] in
      let m2 = beside_made around st st1 st2 (ref v ∷ []) (ref i ∷ []) (row_makes around (record { form = fv; last = any_of [] }) st tt) (row_makes around (record { form = fi; last = any_of [] }) st1 tt) in
      let bv : 0 < with_made made2 around (ref v) = (let h = hit_self (ref v) in omega (arith, h)) in
      let bi : 0 < with_made made2 around (ref i) = (let h = hit_self (ref i) in omega (arith, h)) in
      let k = params_bound around ns (v ∷ i ∷ []) st st2 made2 m2 (bv, (bi, tt)) in (
        k.makes,
        k.are,
      )

  pub named_in : (c : Id → ℕ) (ns : List Text) (rs : List ℕ) → AllIn c rs → AllIn c (refs_of (named_as ns rs))
  named_in c [] rs h = tt
  named_in c (n ∷ ns) [] h = tt
  named_in c (n ∷ ns) (r ∷ rs) h = (h.0, named_in c ns rs h.1)

  pub record ItemNew (around : Id → ℕ) (st : State) (g : ItemGrown) : Type 0 where
    pub frame : New (are_deep g.arm.lives ≡ false) st g.arm.state (λ q. occurs q (item_made g.spot) + (times_in q g.arm.lives + times_comment q g.arm.comment))
    pub made : AllThere g.arm.state.look around (item_made g.spot)
    pub params : AllIn (with_made (item_made g.spot) around) g.spot.params
    pub comment : CommentThere app g.arm.state.look g.arm.comment
    pub there : ThereIn app g.arm.state.look (with_made (item_made g.spot) around) g.arm.lives

  abbrev BodyIn : MPassed → (MScope → Path → State → Lives × State) → Type 0
  BodyIn v body = (around : Id → ℕ) (i : Inst) (a l : Names) → ScopeIn app around (mscope i a l v) → (q : Path) (st : State) → GrownIn around st (body (mscope i a l v) q st)

  pub item_new : (v : MPassed) (body : MScope → Path → State → Lives × State) → BodyIn v body
      → (around : Id → ℕ) (i : Inst) (a l : Names) → ScopeIn app around (mscope i a l v) → (ns : List Text) (q : Path) (x : Entry) (st : State) → ItemNew around st (grow_item body (mscope i a l v) ns q x st)
  item_new v body h around i a l s ns q x st =
      let z = item_spot ns q x st in
      let k = spot_is around ns q x st in
      let inside = with_made (item_made z.0) around in
      let names = item_names ns z.0 in
      let r = body (mscope i a (l ++ names) v) q z.1 in
      let g = arm_new inside z.1 r (h inside i a (l ++ names) (local_in app around inside (made_wider around (item_made z.0)) i a l names v s (named_in inside ns z.0.params k.1)) q z.1) in
      let arm = or_comment r in
      let G = are_deep arm.lives ≡ false in
      let ca : Id → ℕ = λ n. occurs n (item_made z.0) in
      let cb : Id → ℕ = λ n. times_in n arm.lives + times_comment n arm.comment in
      record {
        frame = new_both G st z.1 arm.state ca cb (always_new G st z.1 ca k.0.frame) g.frame;
        made = all_stay z.1.look arm.state.look around (item_made z.0) (then_eases G st z.1 arm.state ca cb k.0.frame g.frame) k.0.there;
        params = k.1;
        comment = g.comment;
        there = g.there;
      }

  -- an item, and then others
  pub items_more : (around : Id → ℕ) (st : State) (g : ItemGrown) (r : Items × State) → ItemNew around st g → ItemsNew around g.arm.state r → ItemsNew around st (Live.item_live g.spot g.arm.comment g.arm.lives r.0, r.1)
  items_more around st g r h k =
      let st1 = g.arm.state in
      let G = (are_deep g.arm.lives || items_deep r.0) ≡ false in
      let ca : Id → ℕ = λ q. occurs q (item_made g.spot) + (times_in q g.arm.lives + times_comment q g.arm.comment) in
      let cb : Id → ℕ = λ q. times_items q r.0 in
      let f = under (are_deep g.arm.lives ≡ false) G st st1 (λ q. 0) ca (or_left (are_deep g.arm.lives) (items_deep r.0)) h.frame in
      let n = under (items_deep r.0 ≡ false) G st1 r.1 (λ q. 0) cb (or_right (are_deep g.arm.lives) (items_deep r.0)) k.frame in
      let e = same_eases st1.look r.1.look ca (new_stays G st st1 r.1 ca cb f n) in
      record {
        frame = new_both G st st1 r.1 ca cb f n;
        there = (
          (
            all_stay st1.look r.1.look around (item_made g.spot) (λ q w. e q (omega (arith, w))) h.made,
            h.params,
            comment_stays app st1.look r.1.look g.arm.comment (λ q w. e q (omega (arith, w))) h.comment,
            stay_in app st1.look r.1.look (with_made (item_made g.spot) around) g.arm.lives (λ q w. e q (omega (arith, w))) h.there,
          ),
          k.there,
        );
      }

  pub entries_new : (around : Id → ℕ) (one : Path → Entry → State → ItemGrown) → ((q : Path) (x : Entry) (st : State) → ItemNew around st (one q x st))
      → (p : Path) (xs : List Entry) (st : State) → ItemsNew around st (grow_entries one p xs st)
  entries_new around one h p [] st = record { frame = no_step (false ≡ false) st; there = tt }
  entries_new around one h p (x ∷ xs) st =
      let g = one (item x.key x.occurrence ∷ p) x st in
      items_more around st g (grow_entries one p xs g.arm.state) (h (item x.key x.occurrence ∷ p) x st) (entries_new around one h p xs g.arm.state)

  -- a branch, and a list, on their position

  branch_new : (around : Id → ℕ) (z : Spot) (u : Bool) (st st1 : State) (a : Arm) → Makes around st st1 z.made → 0 < occurs (ref z.ref) z.made → ArmNew around st1 a → Grown around st (branch_from z u a)
  branch_new around z u st st1 a m own h =
      let G = are_deep a.lives ≡ false in
      let cz : Id → ℕ = λ q. occurs q z.made in
      let ca : Id → ℕ = λ q. times_in q a.lives + times_comment q a.comment in
      record {
        frame = new_both G st st1 a.state cz ca (always_new G st st1 cz m.frame) h.frame;
        there = (spot_stays app st1.look a.state.look around z (then_eases G st st1 a.state cz ca m.frame h.frame) (own, m.there), h.comment, h.there);
      }

  if_new : (around : Id → ℕ) (u : Bool) (z : Spot) (st st1 : State) (f g : Arm) → Makes around st st1 z.made → 0 < occurs (ref z.ref) z.made → ArmNew around st1 f → ArmNew around st1 g
      → Grown around st (cond {A = Live × State} u (branch_from z true f) (branch_from z false g))
  if_new around true z st st1 f g m own hf hg = branch_new around z true st st1 f m own hf
  if_new around false z st st1 f g m own hf hg = branch_new around z false st st1 g m own hg

  each_new : (around : Id → ℕ) (vs : Values Path) (z : Spot) (st st1 : State) (F : Values Path → Items × State) (g : Arm) → Makes around st st1 z.made → 0 < occurs (ref z.ref) z.made
      → ((us : Values Path) → ItemsNew around st1 (F us)) → ArmNew around st1 g → Grown around st (items_or_else z vs F g)
  each_new around no_values z st st1 F a m own hf h =
      let G = are_deep a.lives ≡ false in
      let cz : Id → ℕ = λ q. occurs q z.made in
      let ca : Id → ℕ = λ q. times_in q a.lives + times_comment q a.comment in
      record {
        frame = new_both G st st1 a.state cz ca (always_new G st st1 cz m.frame) h.frame;
        there = (spot_stays app st1.look a.state.look around z (then_eases G st st1 a.state cz ca m.frame h.frame) (own, m.there), h.comment, h.there);
      }
  each_new around (value u us) z st st1 F a m own hf h =
      let r = F (value u us) in
      let k = hf (value u us) in
      let G = items_deep r.0 ≡ false in
      let cz : Id → ℕ = λ q. occurs q z.made in
      let ca : Id → ℕ = λ q. times_items q r.0 in
      record {
        frame = new_both G st st1 r.1 cz ca (always_new G st st1 cz m.frame) k.frame;
        there = (spot_stays app st1.look r.1.look around z (then_eases G st st1 r.1 cz ca m.frame k.frame) (own, m.there), k.there);
      }

  abbrev pub ComponentsNew : GrowComponents → Type 0
  ComponentsNew d =
      (around : Id → ℕ) (q : Path) (made : List Id) (args : Names) (k : Option ℕ) (w : MPassed) (st0 st : State) → Makes around st0 st made → AllIn (with_made made around) (refs_of args) → PassedIn app around w
      → Grown around st0 (d q made args k w st)

  abbrev pub YieldsNew : MPassed → GrowYields → Type 0
  YieldsNew v y =
      (around : Id → ℕ) (n : Text) (made : List Id) (rs : List ℕ) (p : Path) (st0 st : State) → Makes around st0 st made → AllIn (with_made made around) rs → PassedIn app around v
      → Grown around st0 (y n made rs p st)

  module _ (d : GrowComponents) (y : GrowYields) (v : MPassed) (hd : ComponentsNew d) (hy : YieldsNew v y) where
    mutual
      stmt_new : (x : t.Stmt) (around : Id → ℕ) (i : Inst) (a l : Names) → ScopeIn app around (mscope i a l v) → (p : Path) (st : State) → Grown around st (grow_stmt app d y (mscope i a l v) p x st)
      stmt_new (t.text_stmt z) around i a l s p st =
          let c = content (text_content z) in
          record { frame = always_new (false ≡ false) st (make a_node c st) (λ q. hit q (node (st.next a_node))) (make_new a_node c st); there = thing_same (λ q. 0) a_node (Some c) ((make a_node c st).look (node (st.next a_node))) (make_at a_node c st) tt }
      stmt_new (t.comment_stmt z) around i a l s p st =
          let c = content (comment_content z) in
          record { frame = always_new (false ≡ false) st (make a_node c st) (λ q. hit q (node (st.next a_node))) (make_new a_node c st); there = thing_same (λ q. 0) a_node (Some c) ((make a_node c st).look (node (st.next a_node))) (make_at a_node c st) tt }
      stmt_new (t.put e) around i a l s p st =
          let ms = mscope i a l v in
          let x0 = bind_exprs app ms (one_expr e) st in
          let x = place x0 in
          let k = place_new around st x0 (bound_are app around ms s (one_expr e) st) in
          let c = content (text_content (text_of (first_value x.pairs))) in
          let n = x.state.next a_node in
          let st' = make a_node c x.state in
          let G = false ≡ false in
          let cz : Id → ℕ = λ q. occurs q x.spot.made in
          let cn : Id → ℕ = λ q. hit q (node n) in
          let f = always_new G st x.state cz k.makes.frame in
          let mk = always_new G x.state st' cn (make_new a_node c x.state) in
          record {
            frame = recount G st st' (λ q. 0) (λ q. 0) (λ q. cn q + cz q) (λ q. cz q + cn q) (λ q. refl) (λ q. omega arith) (new_both G st x.state st' cz cn f mk);
            there = (
              thing_same (λ q. 0) a_node (Some c) (st'.look (node n)) (make_at a_node c x.state) tt,
              spot_stays app x.state.look st'.look around x.spot (then_eases G st x.state st' cz cn k.makes.frame mk) (k.own, k.makes.there),
            );
          }
      stmt_new (t.element tag ps b) around i a l s p st =
          let ms = mscope i a l v in
          let z = bind_written app (mwritten_parts ms ps) st in
          let hz = written_are app around (mwritten_parts ms ps) (written_scopes app around ms s ps) st in
          let inside = with_made z.made around in
          let u = flush_parts z.parts z.state in
          let hu = flush_new app inside z.parts hz.parts z.state in
          let n = u.state.next a_node in
          let c = content (element_content tag u.attrs) in
          let st1 = make a_node c u.state in
          let r = grow_body app d y ms p 0 b st1 in
          let hr = body_new b around i a l s p 0 st1 in
          let m = install_parts n 0 z.parts r.1 in
          let hm = install_new app inside n 0 z.parts hz.parts r.1 in
          let G = are_deep r.0 ≡ false in
          let cz : Id → ℕ = λ q. occurs q z.made in
          let cu : Id → ℕ = λ q. times_attrs q u.spots in
          let cn : Id → ℕ = λ q. hit q (node n) in
          let cr : Id → ℕ = λ q. times_in q r.0 in
          let cm : Id → ℕ = λ q. times_mods q m.spots in
          let fm = always_new G r.1 m.state cm hm.frame in
          let fr = new_both G st1 r.1 m.state cr cm hr.frame fm in
          let fn = always_new G u.state st1 cn (make_new a_node c u.state) in
          let fnr = new_both G u.state st1 m.state cn (λ q. cr q + cm q) fn fr in
          let fu = always_new G z.state u.state cu hu.frame in
          let fur = new_both G z.state u.state m.state cu (λ q. cn q + (cr q + cm q)) fu fnr in
          let fz = always_new G st z.state cz hz.makes.frame in
          record {
            frame = recount G st m.state (λ q. 0) (λ q. 0) (λ q. (cn q + (cz q + cu q)) + (cr q + cm q)) (λ q. cz q + (cu q + (cn q + (cr q + cm q)))) (λ q. refl) (λ q. omega arith)
                (new_both G st z.state m.state cz (λ q. cu q + (cn q + (cr q + cm q))) fz fur);
            there = (
              thing_same (λ q. 0) a_node (Some c) (m.state.look (node n)) (new_stays G u.state st1 m.state cn (λ q. cr q + cm q) fn fr (node n) (hit_self (node n)) ∙ make_at a_node c u.state) tt,
              all_stay z.state.look m.state.look around z.made (same_eases z.state.look m.state.look cz (new_stays G st z.state m.state cz (λ q. cu q + (cn q + (cr q + cm q))) fz fur)) hz.makes.there,
              attrs_stay app u.state.look m.state.look inside u.spots (same_eases u.state.look m.state.look cu (new_stays G z.state u.state m.state cu (λ q. cn q + (cr q + cm q)) fu fnr)) hu.there,
              hm.there,
              stay_in app r.1.look m.state.look around r.0 (same_eases r.1.look m.state.look cr (new_stays G st1 r.1 m.state cr cm hr.frame fm)) hr.there,
            );
          }
      stmt_new (t.component_stmt c ps given bs) around i a l s p st =
          let ms = mscope i a l v in
          let x = bind_args app ms given st in
          let hx = args_are app around ms s given st in
          let z = bind_written app (mwritten_parts ms ps) x.state in
          let hz = written_are app around (mwritten_parts ms ps) (written_scopes app around ms s ps) x.state in
          let k = z.state.next a_block in
          let both = x.made ++ z.made in
          let st1 = make a_block block_row z.state in
          let m = more_made around st z.state both a_block block_row (beside_made around st x.state z.state x.made z.made hx.makes hz.makes) tt in
          hd around (into c ∷ p) (block_id k ∷ both) x.names (Some k) (mpassed k ps bs ms) st st1 m
          (all_more (with_made x.made around) (with_made (block_id k ∷ both) around) (λ q. let e = left_wider around x.made z.made q in omega (arith, e)) (refs_of x.names) hx.are) s
      stmt_new (t.if_stmt e unless b c) around i a l s p st =
          let ms = mscope i a l v in
          let x0 = bind_exprs app ms (one_expr e) st in
          let x = place x0 in
          let k = place_new around st x0 (bound_are app around ms s (one_expr e) st) in
          if_new around (takes_first unless (first_value x.pairs)) x.spot st x.state
          (or_comment (grow_body app d y ms (main ∷ p) 0 b x.state)) (or_comment (grow_body app d y ms (otherwise ∷ p) 0 c x.state)) k.makes k.own
          (arm_new around x.state (grow_body app d y ms (main ∷ p) 0 b x.state) (body_new b around i a l s (main ∷ p) 0 x.state))
          (arm_new around x.state (grow_body app d y ms (otherwise ∷ p) 0 c x.state) (body_new c around i a l s (otherwise ∷ p) 0 x.state))
      stmt_new (t.each e key ns b c) around i a l s p st =
          let ms = mscope i a l v in
          let x0 = bind_exprs app ms (one_expr e) st in
          let x = place x0 in
          let k = place_new around st x0 (bound_are app around ms s (one_expr e) st) in
          let body : MScope → Path → State → Lives × State = λ ms' q st'. grow_body app d y ms' q 0 b st' in
          each_new around (values_listed (first_value x.pairs)) x.spot st x.state
          (λ vs. grow_entries (grow_item body ms ns) (items ∷ p) (entries key 0 [] vs) x.state)
          (or_comment (grow_body app d y ms (otherwise ∷ p) 0 c x.state)) k.makes k.own
          (λ vs. entries_new around (grow_item body ms ns) (λ q u st'. item_new v body (λ around' i' a' l' s' q' st''. body_new b around' i' a' l' s' q' 0 st'') around i a l s ns q u st') (items ∷ p) (entries key 0 [] vs) x.state)
          (arm_new around x.state (grow_body app d y ms (otherwise ∷ p) 0 c x.state) (body_new c around i a l s (otherwise ∷ p) 0 x.state))
      stmt_new (t.let_stmt es ns b) around i a l s p st =
          let ms = mscope i a l v in
          let x = bind_exprs app ms es st in
          let h = bound_are app around ms s es st in
          let z = bind_params ns x.ids x.state in
          let k = params_bound around ns x.ids st x.state x.made h.makes h.are in
          let made = x.made ++ z.made in
          let inside = with_made made around in
          let r = grow_body app d y (with_names z.names ms) (main ∷ p) 0 b z.state in
          let g = body_new b inside i a (l ++ z.names) (local_in app around inside (made_wider around made) i a l z.names v s k.are) (main ∷ p) 0 z.state in
          let G = are_deep r.0 ≡ false in
          let ca : Id → ℕ = λ q. occurs q made in
          let cr : Id → ℕ = λ q. times_in q r.0 in
          record {
            frame = new_both G st z.state r.1 ca cr (always_new G st z.state ca k.makes.frame) g.frame;
            there = (all_stay z.state.look r.1.look around made (then_eases G st z.state r.1 ca cr k.makes.frame g.frame) k.makes.there, k.are, g.there);
          }
      stmt_new (t.yield es n) around i a l s p st =
          let ms = mscope i a l v in
          let x = bind_exprs app ms es st in
          let h = bound_are app around ms s es st in
          hy around n x.made x.ids p st x.state h.makes h.are s.3

      pub body_new : (b : t.Body) (around : Id → ℕ) (i : Inst) (a l : Names) → ScopeIn app around (mscope i a l v) → (p : Path) (j : ℕ) (st : State) → GrownIn around st (grow_body app d y (mscope i a l v) p j b st)
      body_new t.end around i a l s p j st = record { frame = no_step (false ≡ false) st; there = tt }
      body_new (t.stmt x b) around i a l s p j st =
          let ms = mscope i a l v in
          let r = grow_stmt app d y ms (at j ∷ p) x st in
          let z = grow_body app d y ms p (suc j) b r.1 in
          let h = stmt_new x around i a l s (at j ∷ p) st in
          let k = body_new b around i a l s p (suc j) r.1 in
          let G = (is_deep r.0 || are_deep z.0) ≡ false in
          let ca : Id → ℕ = λ q. times q r.0 in
          let cb : Id → ℕ = λ q. times_in q z.0 in
          let f = under (is_deep r.0 ≡ false) G st r.1 (λ q. 0) ca (or_left (is_deep r.0) (are_deep z.0)) h.frame in
          let n = under (are_deep z.0 ≡ false) G r.1 z.1 (λ q. 0) cb (or_right (is_deep r.0) (are_deep z.0)) k.frame in
          record {
            frame = new_both G st r.1 z.1 ca cb f n;
            there = (Rattle.gl_kept.proofs.Stays.stay app r.1.look z.1.look around r.0 (same_eases r.1.look z.1.look ca (new_stays G st r.1 z.1 ca cb f n)) h.there, k.there);
          }

  -- Blocks and components

  block_new : (around : Id → ℕ) (n : Text) (o : Option Block) (made : List Id) (rs : List ℕ) (f : Block → Names → State → Lives × State) (st0 st : State) → Makes around st0 st made → AllIn (with_made made around) rs
      → ((inside : Id → ℕ) (b : Block) (names : Names) (st' : State) → Wider around inside → AllIn inside (refs_of names) → GrownIn inside st' (f b names st'))
      → Grown around st0 (grow_block n o made rs f st)
  block_new around n None made rs f st0 st m h k = record {
    frame = recount (false ≡ false) st0 st (λ q. 0) (λ q. 0) (λ q. occurs q made + 0) (λ q. occurs q made) (λ q. refl) (λ q. omega arith) (always_new (false ≡ false) st0 st (λ q. occurs q made) m.frame);
    there = (m.there, tt, tt);
  }
  block_new around n (Some b) made0 rs f st0 st m h k =
      let z = bind_params b.params rs st in
      let i = params_bound around b.params rs st0 st made0 m h in
      let made = made0 ++ z.made in
      let inside = with_made made around in
      let r = f b z.names z.state in
      let g = k inside b z.names z.state (made_wider around made) i.are in
      let G = are_deep r.0 ≡ false in
      let ca : Id → ℕ = λ q. occurs q made in
      let cr : Id → ℕ = λ q. times_in q r.0 in
      record {
        frame = new_both G st0 z.state r.1 ca cr (always_new G st0 z.state ca i.makes.frame) g.frame;
        there = (all_stay z.state.look r.1.look around made (then_eases G st0 z.state r.1 ca cr i.makes.frame g.frame) i.makes.there, i.are, g.there);
      }

  module _ (d : GrowComponents) (hd : ComponentsNew d) where
    pub yields_new : (v : MPassed) → YieldsNew v (grow_yields app d v)
    yields_new mnothing around n made rs p st0 st m h k = record {
      frame = recount (false ≡ false) st0 st (λ q. 0) (λ q. 0) (λ q. occurs q made + 0) (λ q. occurs q made) (λ q. refl) (λ q. omega arith) (always_new (false ≡ false) st0 st (λ q. occurs q made) m.frame);
      there = (m.there, tt, tt);
    }
    yields_new (mpassed key ps bs (mscope i a l w)) around n made rs p st0 st m h k =
        block_new around n (block_named n bs) made rs (λ b names st'. grow_body app d (grow_yields app d w) (mscope i a (l ++ names) w) (slot n ∷ p) 0 b.body st') st0 st m h
        (λ inside b names st' f e. body_new d (grow_yields app d w) w hd (yields_new w) b.body inside i a (l ++ names) (local_in app around inside f i a l names w k e) (slot n ∷ p) 0 st')

cells_make : (app : App) (τ : Store) (q : Path) (around : Id → ℕ) (fs : List (Text × Plain)) (st : State) → let c = grow_cells app τ q fs st in Makes around st c.state c.made
cells_make app τ q around [] st = none_made around st
cells_make app τ q around (f ∷ fs) st =
    let form = source_form (cell q f.0) (cell_value app τ q f.0) in
    let st1 = made_row form st in
    let c = grow_cells app τ q fs st1 in
    beside_made around st st1 c.state (ref (st.next a_ref) ∷ []) c.made (row_makes around (record { form = form; last = any_of [] }) st tt) (cells_make app τ q around fs st1)

pub components_new : (m : ℕ) (app : App) (τ : Store) → ComponentsNew app (grow_components m app τ)
components_new zero app τ around q made args k w st0 st m h s = record {
  frame = record { more = m.frame.more; kept = m.frame.kept; fresh = λ j lt z. refl; old = λ j le. refl; clean = λ e. absurd (true≢false e) };
  there = tt;
}
components_new (suc n) app τ around q made args k w st0 st m h s =
    let fields = (class_at app q).fields in
    let c = grow_cells app τ q fields st in
    let i : Inst = record { id = c.state.next an_instance; path = q; cells = c.names } in
    let st1 = make an_instance (instance_row i) c.state in
    let both = made ++ c.made in
    let all = instance_id i.id ∷ both in
    let m1 = beside_made around st0 st c.state made c.made m (cells_make app τ q around fields st) in
    let m2 = more_made around st0 c.state both an_instance (instance_row i) m1 tt in
    let inside = with_made all around in
    let own : (x : Text) → Rattle.gl_meaning.specs.Eval.member_of (class_at app q) x ≡ Rattle.gl_meaning.specs.Eval.field_member → 0 < occurs (ref (Rattle.gl_plain.specs.State.cell_ref i x)) all =
    (λ x e. right_occurs (ref (Rattle.gl_plain.specs.State.cell_ref i x)) (instance_id i.id ∷ []) both (right_occurs (ref (Rattle.gl_plain.specs.State.cell_ref i x)) made c.made (cells_stand app τ τ q i.id st x e).0)) in
    let args_in = all_more (with_made made around) inside (λ j. let e = left_wider around made c.made j in omega (arith, e)) (refs_of args) h in
    let scope : ScopeIn app inside (mscope i args [] w) = ((λ x e. let u = own x e in omega (arith, u)), args_in, tt, passed_more app around inside (made_wider around all) w s) in
    let d = grow_components n app τ in
    let r = grow_body app d (grow_yields app d w) (mscope i args [] w) q 0 (class_at app q).template st1 in
    let hd = components_new n app τ in
    let g = body_new app d (grow_yields app d w) w hd (yields_new app d hd w) (class_at app q).template inside i args [] scope q 0 st1 in
    let G = are_deep r.0 ≡ false in
    let ca : Id → ℕ = λ j. occurs j all in
    let cr : Id → ℕ = λ j. times_in j r.0 in
    record {
      frame = new_both G st0 st1 r.1 ca cr (always_new G st0 st1 ca m2.frame) g.frame;
      there = (
        all_stay st1.look r.1.look around all (same_eases st1.look r.1.look ca (new_stays G st0 st1 r.1 ca cr (always_new G st0 st1 ca m2.frame) g.frame)) m2.there,
        own,
        args_in,
        g.there,
      );
    }
