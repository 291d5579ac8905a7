-- The words of statements and bodies append what the tree says, and what they record is well placed.
use Rattle.std.proofs.Common.{◌≡◌, ℕ, suc, List, [], ◌∷◌, ◌++◌, map, Bool, true, false, ◌||◌, cond, Option, Some, None, refl, sym, ◌∙◌, ap, subst, if◌then◌else◌}
use Rattle.std.proofs.lemmas.List.{length-map, map-append, append-nil}
use Rattle.gl_base.specs.Texts.{Text}
use Rattle.gl_value.specs.Value as va
use Rattle.gl_ast.specs.Template.{Expr, Exprs, no_exprs, expr, Part, Stmt, text_stmt, comment_stmt, put, element, component_stmt, if_stmt, each, let_stmt, yield, AttrValue, Body, end, stmt, Slots, no_slots, block}
use Rattle.gl_program.specs.Program.{op_at, Stands}
use Rattle.gl_ops.specs.declared.op.Op.{Op}
use Rattle.gl_ops.specs.declared.op.Op.TheVariants as op
use Rattle.gl_meaning.specs.Path.{main, otherwise, items, into, Path}
use Rattle.gl_meaning.specs.Path as pt
use Rattle.gl_meaning.specs.Render as r
use Rattle.gl_meaning.specs.Eval.{Store, takes_first}
use Rattle.std.specs.Prelude.{slice_get}
use Rattle.gl_opc.specs.Numbers.{class_number, parameter_symbol, item_op}
use Rattle.gl_opc.specs.Spans.{StmtAt, BodyAt, BlocksAt, BareAt, ExprAt, if_op, count_exprs}
use Rattle.gl_plain.specs.Ids.{a_ref, a_node, a_block, Id, block_id}
use Rattle.gl_plain.specs.State.{constant_form, Names, refs_of, named_as, Inst, MScope, mscope, MPassed, mpassed, text_content, comment_content, element_content, block_row, State, make}
use Rattle.gl_plain.specs.Naming.{Naming}
use Rattle.gl_plain.specs.State as s
use Rattle.gl_plain.specs.Binding.{made_row, Spot, place, first_value, bind_deep_as, getters_in, bind_expr_as, bind_exprs_as, bind_args_as, bind_params}
use Rattle.gl_plain.specs.Parts.{mwritten_parts, mpassed_parts}
use Rattle.gl_plain.specs.Tags.{bind_written_as, flush_parts, install_parts}
use Rattle.gl_plain.specs.Live.{listed, ItemSpot, item_live, items_deep, Live, Lives, element_live, let_live, live_and, have_node, is_deep, are_deep}
use Rattle.gl_plain.specs.Grow.{Arm, unlisted_from, items_or_else, ItemGrown, item_spot_as, grow_item_as, grow_entries, GrowComponents, GrowYields, made_node, or_comment, branch_from, grow_stmt_as, grow_body_as}
use Rattle.gl_machine.specs.Sight.{Sight, Passing, passing, passing_in}
use Rattle.gl_machine.specs.Code.{Choice, Listing, listed_code, unlisted_code, ItemCodes, no_item_codes, item_code, items_of, Code, still_code, put_code, element_code, branch_code, let_code, Codes, no_codes, code_and, live_of, lives_of}
use Rattle.gl_machine.specs.RenewCode.{CodeArm, unlisted_with, commented, branch_with}
use Rattle.gl_machine.specs.Params.{Known, TwoKnown, HasParams, HasParamsIn}
use Rattle.gl_machine.specs.Env.{Env, class_no, program_no, symbols_at, by_symbol, texts_of, seen}
use Rattle.gl_machine.specs.Placed.{EndsParts, IsOf, Matches, Fits, ChoiceAt, ListingAt, Placed, PlacedIn, PlacedItems}
use Rattle.gl_machine.specs.Mach.{Pushed, Here, Making, idle, Kind, in_element, in_branch, in_let, Item, in_each, in_item, in_other, items_all, Frame, Rest, Mach, Run, mach, go, fresh, added, next_at}
use Rattle.gl_machine.specs.Step.{operands, each_into, next_item, given, popped, unless_parts, do_op_as, do_if, do_invoke_as, yield_to, Comes_as, here}
use Rattle.gl_machine.proofs.Following.{either, or_first, or_second, or_none}
use Rattle.gl_machine.proofs.Runs.{adds, closed_codes, on, at_op, Goes, ends, first, onto, starts}
use Rattle.gl_machine.proofs.Stacks.{popped-last, unnamed, lower_is, upper_is, positional_all}
use Rattle.gl_machine.proofs.Symbols.{known_both, known_two}
use Rattle.gl_machine.proofs.Words.{pushed, counted}
use Rattle.gl_machine.proofs.Sound.{Sound}
use Rattle.gl_machine.proofs.Getters.{room, expr_comes, exprs_come}
use Rattle.gl_machine.proofs.Tags.{with_parts, with_args, with_slots, unused, names_more, bound_are, params_come, SpreadGoes, parts_come, arguments_come, slots_come, bare_comes}

abbrev pub resting : Sight → List ℕ → Here → Making → ℕ → List Frame → Rest
resting seen_there pending h k left fs = record { getter = None; sight = seen_there; pending = pending; here = h; making = k; left = left; frames = fs }

abbrev pub IsStmt : Env → ℕ → MScope → Passing → Path → Stmt → Code → Type 0
IsStmt env c ms w p x k = Placed env c ms w p x k

-- The machine appends components so, where they may still nest so deep.
abbrev pub InvokeGoes : Naming → Env → Store → ℕ → GrowComponents → Type 0
InvokeGoes naming env store left components =
    (st : State) (stk : List Pushed) (made : List Id) (pc : ℕ) (sight : Sight) (pending : List ℕ) (h : Here) (fs : List Frame) (q : ℕ) (n : Text)
    → class_number env.manifest n ≡ Some q → (k : Making) → k.class ≡ q
    → (c : ℕ) (ms : MScope) (w : Passing) (ps : List Part) (given : List (Text × AttrValue)) (bs : Slots)
    → (let b = st.next a_block in
    Matches env (passing b k.start k.slots sight) (mpassed b ps bs ms)
    → Goes naming env store (Placed env c ms w (next_at h) (component_stmt n ps given bs)) live_of is_deep
    (do_invoke_as naming env store (mach st stk made pc (resting sight pending h k left fs)) left)
    (components (into n ∷ next_at h) (block_id b ∷ made) k.args (Some b) (mpassed b ps bs ms) (make a_block block_row st))
    (λ x. go x.1 stk [] (suc pc) (resting sight pending (added x.0 h) idle left fs)))

-- The machine yields so to what was passed.
abbrev pub YieldGoes : Naming → Env → Store → ℕ → GrowYields → MPassed → Type 0
YieldGoes naming env store left yields v =
    (st : State) (stk : List Pushed) (made : List Id) (pc : ℕ) (sight : Sight) (pending : List ℕ) (h : Here) (fs : List Frame) (n : Text) (rs : List ℕ)
    → (c : ℕ) (i : Inst) (a l : Names) (w : Passing) (es : Exprs) → Matches env (passing_in sight) v
    → Goes naming env store (Placed env c (mscope i a l v) w (next_at h) (yield es n)) live_of is_deep
    (yield_to n rs (mach st stk made pc (resting sight pending h idle left fs)) (passing_in sight))
    (yields n made rs (next_at h) st)
    (λ x. go x.1 stk [] (suc pc) (resting sight pending (added x.0 h) idle left fs))

-- parameters are known by their references
pub named_back : (ns : List Text) (rs : List ℕ) (st : State) → named_as ns (refs_of (bind_params ns rs st).names) ≡ (bind_params ns rs st).names
named_back [] rs st = refl
named_back (n ∷ ns) [] st = ap (λ xs. (n, st.next a_ref) ∷ xs) (named_back ns [] (made_row (constant_form va.undefined) st))
named_back (n ∷ ns) (r ∷ rs) st = ap (λ xs. (n, r) ∷ xs) (named_back ns rs st)

if_step : (naming : Naming) (env : Env) (store : Store) (m : Mach) (unless : Bool) (other : ℕ) → do_op_as naming env store m (if_op unless other) ≡ given (popped m.stack) (do_if unless other m)
if_step naming env store m true other = refl
if_step naming env store m false other = refl

-- what stands behind the words of a component's parts
parts_end : (env : Env) (c : ℕ) (names : List Text) (from : ℕ) (ss : Slots) (rest last : ℕ)
    → BlocksAt (program_no env c) env.manifest (class_no env c) (symbols_at env c) names from ss rest → BareAt (program_no env c) env.manifest (class_no env c) (symbols_at env c) rest ss last
    → (next : ℕ) × (o : Op) × Stands (program_no env c) from o next × EndsParts o
parts_end env c names from no_slots rest last at_blocks at_bare = (last, op.Bare, subst (λ n. Stands (program_no env c) n op.Bare last) (sym at_blocks) at_bare, record {})
parts_end env c names from (block name ns b ss) rest last (n, params, body, over, next, has, at, at_params, at_body, at_over, more) at_bare = (params, op.Block n next, at, record {})

module _ (naming : Naming) (env : Env) (store : Store) (sound : Sound env)
    (c : ℕ) (i : Inst) (a : Names) (v : MPassed) (w : Passing) (is : IsOf env c i) (passes : Matches env w v)
    (spreads : SpreadGoes naming env store (mpassed_parts v) w)
    (left : ℕ) (components : GrowComponents) (yields : GrowYields)
    (invokes : InvokeGoes naming env store left components) (yields_go : YieldGoes naming env store left yields v) where
  abbrev symbols : List Text
  symbols = symbols_at env c

  abbrev with : Names → MScope
  with l = mscope i a l v

  abbrev space : Names → List ℕ → Here → List Frame → Rest
  space l pending h fs = room env c i a l v w pending h idle left fs

  -- one expression, as the list that its position is over
  test_comes : (l : Names) → Known symbols (texts_of l) → (pending : List ℕ) (h : Here) (fs : List Frame) (st : State) (stk : List Pushed) (whole : Bool) (from : ℕ) (e : Expr) (to : ℕ)
      → ExprAt (program_no env c) env.manifest (class_no env c) symbols whole (texts_of l) from e to
      → (let x = bind_exprs_as naming env.app (with l) (expr e no_exprs) st in let b = bind_expr_as naming env.app (with l) e st in
      Comes_as naming env store (go st stk [] from (space l pending h fs)) (go x.state (pushed stk b.id) x.made to (space l pending h fs)))
  test_comes l known pending h fs st stk whole from e to at =
      rw (append-nil (bind_expr_as naming env.app (with l) e st).made)
      (expr_comes naming env store sound c i a l v w known is pending h idle left fs st stk [] whole from e to at)

  fits : (l : Names) → Known symbols (texts_of l) → Fits env c (with l) w
  fits l known = record { known = known; is = is; passes = passes }

  frame_is : (fs : List Frame) (h : Here) (k : Kind) → ((m : Mach) (r : Run) → unless_parts m (Some (fs, record { here = h; kind = k })) r ≡ r)
      → (m : Mach) (r : Run) → unless_parts m (popped (fs ++ record { here = h; kind = k } ∷ [])) r ≡ r
  frame_is fs h k f m r = ap (λ o. unless_parts m o r) (popped-last fs (record { here = h; kind = k })) ∙ f m r

  -- a branch is closed
  closes : (l : Names) (pending : List ℕ) (stk : List Pushed) (h : Here) (fs : List Frame) (e : Expr) (unless : Bool) (b b' : Body) (z : Choice) (x : Spot) (u : Bool)
      (last to : ℕ) → Stands (program_no env c) last op.EndIf to → (r : Codes × State) → are_deep (lives_of r.0) ≡ false
      → ((k : Option ℕ) → Placed env c (with l) w (next_at h) (if_stmt e unless b b') (branch_code z x u k r.0))
      → (inner : Here) → inner.codes ≡ []
      → Goes naming env store (Placed env c (with l) w (next_at h) (if_stmt e unless b b')) live_of is_deep
      (go r.1 stk [] last (space l pending (adds r.0 inner) (fs ++ record { here = h; kind = in_branch z x u } ∷ [])))
      (branch_from x u (or_comment (lives_of r.0, r.1)))
      (λ y. go y.1 stk [] to (space l pending (added y.0 h) fs))
  closes l pending stk h fs e unless b b' z x u last to at r fine is inner none =
      let frame : Frame = record { here = h; kind = in_branch z x u } in
      first naming env store (Placed env c (with l) w (next_at h) (if_stmt e unless b b')) live_of is_deep
      (go r.1 stk [] last (space l pending (adds r.0 inner) (fs ++ frame ∷ [])))
      (let y = branch_with z x u (commented r) in go y.1 stk [] to (space l pending (added y.0 h) fs))
      (branch_from x u (or_comment (lives_of r.0, r.1))) (λ y. go y.1 stk [] to (space l pending (added y.0 h) fs))
      (at_op naming env store r.1 stk [] last (space l pending (adds r.0 inner) (fs ++ frame ∷ [])) op.EndIf to at
      (λ n. let y = branch_with z x u (commented r) in go y.1 stk [] n (space l pending (added y.0 h) fs))
      (rw (popped-last fs frame, closed_codes r.0 inner none) refl))
      (either (have_node (lives_of r.0))
      (λ t. let ca = cond {A = CodeArm} t (record { comment = None; codes = r.0; state = r.1 }) (record { comment = Some (r.1.next a_node); codes = r.0; state = made_node (comment_content []) r.1 }) in
      let la = cond {A = Arm} t (record { comment = None; lives = lives_of r.0; state = r.1 }) (record { comment = Some (r.1.next a_node); lives = lives_of r.0; state = made_node (comment_content []) r.1 }) in
      Goes naming env store (Placed env c (with l) w (next_at h) (if_stmt e unless b b')) live_of is_deep
      (let y = branch_with z x u ca in go y.1 stk [] to (space l pending (added y.0 h) fs))
      (branch_from x u la) (λ y. go y.1 stk [] to (space l pending (added y.0 h) fs)))
      (ends (branch_code z x u None r.0, r.1) refl fine (is None) here)
      (ends (branch_code z x u (Some (r.1.next a_node)) r.0, made_node (comment_content []) r.1) refl fine (is (Some (r.1.next a_node))) here))

  abbrev NoneUnder : List Frame → Type 0
  NoneUnder fs = (m : Mach) (r : Run) → unless_parts m (popped fs) r ≡ r

  abbrev BodyGoes : Body → Type 0
  BodyGoes b =
      (l : Names) → Known symbols (texts_of l) → (pending : List ℕ) (st : State) (stk : List Pushed) (h : Here) (fs : List Frame) → NoneUnder fs
      → (from to : ℕ) → BodyAt (program_no env c) env.manifest (class_no env c) symbols (texts_of l) from b to → HasParamsIn symbols b
      → Goes naming env store (PlacedIn env c (with l) w h.path h.index b) lives_of are_deep (go st stk [] from (space l pending h fs))
      (grow_body_as naming env.app components yields (with l) h.path h.index b st) (λ r. go r.1 stk [] to (space l pending (adds r.0 h) fs))

  -- Lists: the items that are left are appended one after another.
  module _ (l : Names) (known : Known symbols (texts_of l)) (pending : List ℕ) (stk : List Pushed) (h : Here) (fs : List Frame)
      (e : Expr) (key : Text) (ns : List Text) (b b' : Body) (two : TwoKnown symbols ns) (fit : HasParamsIn symbols b) (fit' : HasParamsIn symbols b') (x : Spot) (item body over jump other last to : ℕ)
      (at_item : Stands (program_no env c) item (item_op symbols ns) body) (at_body : BodyAt (program_no env c) env.manifest (class_no env c) symbols (texts_of l ++ ns) body b over)
      (at_end : Stands (program_no env c) over op.EndItem jump) (at_else : Stands (program_no env c) jump (op.Else last) other)
      (at_other : BodyAt (program_no env c) env.manifest (class_no env c) symbols (texts_of l) other b' last) (at_last : Stands (program_no env c) last op.EndEach to) where
    abbrev z : Listing
    z = record {
      key = key;
      value = parameter_symbol symbols (slice_get ns 0);
      index = parameter_symbol symbols (slice_get ns 1);
      body = body;
      other = other;
      sight = seen env c (with l) w;
    }

    listing : ListingAt env c (with l) w key ns b b' z
    listing = (refl, refl, refl, two, refl, fits l known, (over, jump, op.EndItem, at_body, at_end, record {}, fit), (last, to, op.EndEach, at_other, at_last, record {}, fit'))

    abbrev list_frame : List r.Entry → List Item → Frame
    list_frame es done = record { here = h; kind = in_each z x item es done }

    abbrev item_frame : List r.Entry → List Item → ItemSpot → Frame
    item_frame es done s = record { here = h; kind = in_item z x item es done s }

    abbrev item_path : r.Entry → Path
    item_path e = pt.item e.key e.occurrence ∷ items ∷ next_at h

    abbrev more : ItemSpot → Names
    more s = l ++ named_as ns s.params

    abbrev listing_of : List Text → Listing
    listing_of xs = record { key = key; value = parameter_symbol symbols (slice_get xs 0); index = parameter_symbol symbols (slice_get xs 1); body = body; other = other; sight = seen env c (with l) w }

    -- what the machine makes for an item is what the tree says
    abbrev ItemIs : List Text → Type 0
    ItemIs xs =
        (y : r.Entry) (es : List r.Entry) (done : List Item) (zt : State) → let s = item_spot_as naming xs (item_path y) y zt in
        do_op_as naming env store (mach zt stk [] item (space l pending h (fs ++ record { here = h; kind = in_each (listing_of xs) x item (y ∷ es) done } ∷ []))) (item_op symbols xs)
        ≡ go s.1 stk [] body (space (l ++ named_as xs s.0.params) pending (fresh (item_path y)) (fs ++ record { here = h; kind = in_item (listing_of xs) x item es done s.0 } ∷ []))

    item_is : (xs : List Text) → TwoKnown symbols xs → ItemIs xs
    item_is [] t y es done zt = rw (popped-last fs (record { here = h; kind = in_each (listing_of []) x item (y ∷ es) done }), map-append (by_symbol symbols) l []) refl
    item_is (n ∷ []) t y es done zt =
        let v = zt.next a_ref in
        rw (popped-last fs (record { here = h; kind = in_each (listing_of (n ∷ [])) x item (y ∷ es) done }), map-append (by_symbol symbols) l ((n, v) ∷ [])) refl
    item_is (n ∷ m ∷ []) t y es done zt =
        let v = (item_spot_as naming (n ∷ m ∷ []) (item_path y) y zt).0 in
        rw (popped-last fs (record { here = h; kind = in_each (listing_of (n ∷ m ∷ [])) x item (y ∷ es) done }), map-append (by_symbol symbols) l ((n, v.value) ∷ (m, v.index) ∷ [])) refl
    item_is (n ∷ m ∷ k ∷ xs) t y es done zt = absurd t

    item_names : (xs : List Text) → TwoKnown symbols xs → (y : r.Entry) (zt : State) → texts_of (l ++ named_as xs (item_spot_as naming xs (item_path y) y zt).0.params) ≡ texts_of l ++ xs
    item_names [] t y zt = map-append (λ x. x.0) l []
    item_names (n ∷ []) t y zt = map-append (λ x. x.0) l ((n, zt.next a_ref) ∷ [])
    item_names (n ∷ m ∷ []) t y zt = let v = (item_spot_as naming (n ∷ m ∷ []) (item_path y) y zt).0 in map-append (λ x. x.0) l ((n, v.value) ∷ (m, v.index) ∷ [])
    item_names (n ∷ m ∷ k ∷ xs) t y zt = absurd t

    abbrev pushes : ItemCodes → List Item → List Item
    pushes no_item_codes done = done
    pushes (item_code s k cs is) done = pushes is (done ++ record { spot = s; comment = k; codes = cs } ∷ [])

    abbrev before_items : List Item → ItemCodes → ItemCodes
    before_items [] is = is
    before_items (y ∷ ys) is = item_code y.spot y.comment y.codes (before_items ys is)

    before_last : (ys : List Item) (y : Item) (is : ItemCodes) → before_items (ys ++ y ∷ []) is ≡ before_items ys (item_code y.spot y.comment y.codes is)
    before_last [] y is = refl
    before_last (q ∷ ys) y is = ap (item_code q.spot q.comment q.codes) (before_last ys y is)

    all_pushed : (is : ItemCodes) (done : List Item) → items_all (pushes is done) ≡ before_items done is
    all_pushed no_item_codes done = all_before done
      where
        all_before : (ys : List Item) → items_all ys ≡ before_items ys no_item_codes
        all_before [] = refl
        all_before (y ∷ ys) = ap (item_code y.spot y.comment y.codes) (all_before ys)
    all_pushed (item_code s k cs is) done = all_pushed is (done ++ record { spot = s; comment = k; codes = cs } ∷ []) ∙ before_last done (record { spot = s; comment = k; codes = cs }) is

    abbrev one : Path → r.Entry → State → ItemGrown
    one q y st' = grow_item_as naming (λ ms' q' st''. grow_body_as naming env.app components yields ms' q' 0 b st'') (with l) ns q y st'

    items_left : BodyGoes b → (es : List r.Entry) (done : List Item) (st : State)
        → Goes naming env store (PlacedItems env c (with l) w (items ∷ next_at h) ns b) items_of items_deep
        (go st stk [] (next_item es item jump) (space l pending h (fs ++ list_frame es done ∷ [])))
        (grow_entries one (items ∷ next_at h) es st)
        (λ r. go r.1 stk [] jump (space l pending h (fs ++ list_frame [] (pushes r.0 done) ∷ [])))
    items_left step [] done st = ends (no_item_codes, st) refl refl (record {}) here
    items_left step (y ∷ es) done st =
        let q = item_path y in
        let names = item_names ns two y st in
        let s = item_spot_as naming ns q y st in
        let m = more s.0 in
        let frame = item_frame es done s.0 in
        let inner = fresh q in
        let P = PlacedItems env c (with l) w (items ∷ next_at h) ns b in
        let E = λ (r : ItemCodes × State). go r.1 stk [] jump (space l pending h (fs ++ list_frame [] (pushes r.0 done) ∷ [])) in
        first naming env store P items_of items_deep (go st stk [] item (space l pending h (fs ++ list_frame (y ∷ es) done ∷ [])))
        (go s.1 stk [] body (space m pending inner (fs ++ frame ∷ []))) (grow_entries one (items ∷ next_at h) (y ∷ es) st) E
        (at_op naming env store st stk [] item (space l pending h (fs ++ list_frame (y ∷ es) done ∷ [])) (item_op symbols ns) body at_item
        (λ k. go s.1 stk [] body (space m pending inner (fs ++ frame ∷ [])))
        (item_is ns two y es done st))
        (onto naming env store (PlacedIn env c (with m) w q 0 b) lives_of are_deep P items_of items_deep
        (go s.1 stk [] body (space m pending inner (fs ++ frame ∷ []))) (grow_body_as naming env.app components yields (with m) q 0 b s.1)
        (λ r. go r.1 stk [] over (space m pending (adds r.0 inner) (fs ++ frame ∷ [])))
        (λ r. let a = or_comment r in let rest = grow_entries one (items ∷ next_at h) es a.state in (item_live s.0 a.comment a.lives rest.0, rest.1)) E
        (step m (subst (Known symbols) (sym names) (known_both symbols (texts_of l) ns known (known_two symbols ns two)))
        pending s.1 stk inner (fs ++ frame ∷ []) (λ m r. ap (λ o. unless_parts m o r) (popped-last fs frame)) body over
        (subst (λ ts. BodyAt (program_no env c) env.manifest (class_no env c) symbols ts body b over) (sym names) at_body) fit)
        (λ r d. either (have_node r.0)
        (λ t. let a = cond {A = Arm} t (record { comment = None; lives = r.0; state = r.1 }) (record { comment = Some (r.1.next a_node); lives = r.0; state = made_node (comment_content []) r.1 }) in
        let rest = grow_entries one (items ∷ next_at h) es a.state in (are_deep a.lives || items_deep rest.0) ≡ true)
        (or_first (are_deep r.0) _ d) (or_first (are_deep r.0) _ d))
        (λ r fine placed.
        let arm = λ (k : Option ℕ) (st2 : State).
        let done' = done ++ record { spot = s.0; comment = k; codes = r.0 } ∷ [] in
        onto naming env store P items_of items_deep P items_of items_deep
        (go st2 stk [] (next_item es item jump) (space l pending h (fs ++ list_frame es done' ∷ []))) (grow_entries one (items ∷ next_at h) es st2)
        (λ g. go g.1 stk [] jump (space l pending h (fs ++ list_frame [] (pushes g.0 done') ∷ [])))
        (λ g. (item_live s.0 k (lives_of r.0) g.0, g.1)) E
        (items_left step es done' st2)
        (λ g d. or_second (are_deep (lives_of r.0)) (items_deep g.0) d)
        (λ g fine' placed'. ends (item_code s.0 k r.0 g.0, g.1) refl (or_none (are_deep (lives_of r.0)) (items_deep (items_of g.0)) fine fine') (placed, placed') here) in
        first naming env store P items_of items_deep (go r.1 stk [] over (space m pending (adds r.0 inner) (fs ++ frame ∷ [])))
        (let ca = commented r in go ca.state stk [] (next_item es item jump) (space l pending h (fs ++ list_frame es (done ++ record { spot = s.0; comment = ca.comment; codes = ca.codes } ∷ []) ∷ [])))
        (let a = or_comment (lives_of r.0, r.1) in let rest = grow_entries one (items ∷ next_at h) es a.state in (item_live s.0 a.comment a.lives rest.0, rest.1)) E
        (at_op naming env store r.1 stk [] over (space m pending (adds r.0 inner) (fs ++ frame ∷ [])) op.EndItem jump at_end
        (λ k. let ca = commented r in go ca.state stk [] (next_item es item k) (space l pending h (fs ++ list_frame es (done ++ record { spot = s.0; comment = ca.comment; codes = ca.codes } ∷ []) ∷ [])))
        (rw (popped-last fs frame, closed_codes r.0 inner refl) refl))
        (either (have_node (lives_of r.0))
        (λ t. let ca = cond {A = CodeArm} t (record { comment = None; codes = r.0; state = r.1 }) (record { comment = Some (r.1.next a_node); codes = r.0; state = made_node (comment_content []) r.1 }) in
        let a = cond {A = Arm} t (record { comment = None; lives = lives_of r.0; state = r.1 }) (record { comment = Some (r.1.next a_node); lives = lives_of r.0; state = made_node (comment_content []) r.1 }) in
        Goes naming env store P items_of items_deep
        (go ca.state stk [] (next_item es item jump) (space l pending h (fs ++ list_frame es (done ++ record { spot = s.0; comment = ca.comment; codes = ca.codes } ∷ []) ∷ [])))
        (let rest = grow_entries one (items ∷ next_at h) es a.state in (item_live s.0 a.comment a.lives rest.0, rest.1)) E)
        (arm None r.1) (arm (Some (r.1.next a_node)) (made_node (comment_content []) r.1)))))

    each_goes : BodyGoes b → BodyGoes b' → (st : State) (vs : va.Values Path)
        → Goes naming env store (Placed env c (with l) w (next_at h) (each e key ns b b')) live_of is_deep
        (each_into z x item (r.entries key 0 [] vs) st stk (space l pending h fs))
        (items_or_else x vs (λ vs. grow_entries one (items ∷ next_at h) (r.entries key 0 [] vs) st) (or_comment (grow_body_as naming env.app components yields (with l) (otherwise ∷ next_at h) 0 b' st)))
        (λ r. go r.1 stk [] to (space l pending (added r.0 h) fs))
    each_goes step step' st va.no_values =
        let frame : Frame = record { here = h; kind = in_other z x } in
        let inner = fresh (otherwise ∷ next_at h) in
        let P = Placed env c (with l) w (next_at h) (each e key ns b b') in
        onto naming env store (PlacedIn env c (with l) w (otherwise ∷ next_at h) 0 b') lives_of are_deep P live_of is_deep
        (go st stk [] other (space l pending inner (fs ++ frame ∷ []))) (grow_body_as naming env.app components yields (with l) (otherwise ∷ next_at h) 0 b' st)
        (λ r. go r.1 stk [] last (space l pending (adds r.0 inner) (fs ++ frame ∷ [])))
        (λ r. unlisted_from x (or_comment r)) (λ r. go r.1 stk [] to (space l pending (added r.0 h) fs))
        (step' l known pending st stk inner (fs ++ frame ∷ []) (λ m r. ap (λ o. unless_parts m o r) (popped-last fs frame)) other last at_other fit')
        (λ r d. either (have_node r.0)
        (λ t. is_deep (unlisted_from x (cond {A = Arm} t (record { comment = None; lives = r.0; state = r.1 }) (record { comment = Some (r.1.next a_node); lives = r.0; state = made_node (comment_content []) r.1 }))).0 ≡ true) d d)
        (λ r fine placed.
        first naming env store P live_of is_deep (go r.1 stk [] last (space l pending (adds r.0 inner) (fs ++ frame ∷ [])))
        (let y = unlisted_with z x (commented r) in go y.1 stk [] to (space l pending (added y.0 h) fs))
        (unlisted_from x (or_comment (lives_of r.0, r.1))) (λ r. go r.1 stk [] to (space l pending (added r.0 h) fs))
        (at_op naming env store r.1 stk [] last (space l pending (adds r.0 inner) (fs ++ frame ∷ [])) op.EndEach to at_last
        (λ k. let y = unlisted_with z x (commented r) in go y.1 stk [] k (space l pending (added y.0 h) fs))
        (rw (popped-last fs frame, closed_codes r.0 inner refl) refl))
        (either (have_node (lives_of r.0))
        (λ t. let ca = cond {A = CodeArm} t (record { comment = None; codes = r.0; state = r.1 }) (record { comment = Some (r.1.next a_node); codes = r.0; state = made_node (comment_content []) r.1 }) in
        let a = cond {A = Arm} t (record { comment = None; lives = lives_of r.0; state = r.1 }) (record { comment = Some (r.1.next a_node); lives = lives_of r.0; state = made_node (comment_content []) r.1 }) in
        Goes naming env store P live_of is_deep (let y = unlisted_with z x ca in go y.1 stk [] to (space l pending (added y.0 h) fs)) (unlisted_from x a) (λ r. go r.1 stk [] to (space l pending (added r.0 h) fs)))
        (ends (unlisted_code z x None r.0, r.1) refl fine (listing, placed) here)
        (ends (unlisted_code z x (Some (r.1.next a_node)) r.0, made_node (comment_content []) r.1) refl fine (listing, placed) here)))
    each_goes step step' st (va.value y vs) =
        let es = r.entries key 0 [] (va.value y vs) in
        let P = Placed env c (with l) w (next_at h) (each e key ns b b') in
        onto naming env store (PlacedItems env c (with l) w (items ∷ next_at h) ns b) items_of items_deep P live_of is_deep
        (go st stk [] item (space l pending h (fs ++ list_frame es [] ∷ []))) (grow_entries one (items ∷ next_at h) es st)
        (λ g. go g.1 stk [] jump (space l pending h (fs ++ list_frame [] (pushes g.0 []) ∷ [])))
        (λ g. (listed x g.0, g.1)) (λ r. go r.1 stk [] to (space l pending (added r.0 h) fs))
        (items_left step es [] st)
        (λ g d. d)
        (λ g fine placed.
        let frame = list_frame [] (pushes g.0 []) in
        ends (listed_code z x g.0, g.1) refl fine (listing, placed)
        (on naming env store
        (at_op naming env store g.1 stk [] jump (space l pending h (fs ++ frame ∷ [])) (op.Else last) other at_else (λ n. go g.1 stk [] last (space l pending h (fs ++ frame ∷ []))) (rw (popped-last fs frame) refl))
        (at_op naming env store g.1 stk [] last (space l pending h (fs ++ frame ∷ [])) op.EndEach to at_last
        (λ k. go g.1 stk [] k (space l pending (added (listed_code z x g.0) h) fs))
        (rw (popped-last fs frame, all_pushed g.0 []) refl))))

  mutual
    pub stmt_goes : (l : Names) → Known symbols (texts_of l) → (pending : List ℕ) (st : State) (stk : List Pushed) (h : Here) (fs : List Frame) → NoneUnder fs
        → (from : ℕ) (x : Stmt) (to : ℕ) → StmtAt (program_no env c) env.manifest (class_no env c) symbols (texts_of l) from x to → HasParams symbols x
        → Goes naming env store (Placed env c (with l) w (next_at h) x) live_of is_deep (go st stk [] from (space l pending h fs))
        (grow_stmt_as naming env.app components yields (with l) (next_at h) x st) (λ r. go r.1 stk [] to (space l pending (added r.0 h) fs))
    stmt_goes l known pending st stk h fs none from (text_stmt t) to (j, has, at) fit =
        let n = st.next a_node in
        let st1 = made_node (text_content t) st in
        ends (still_code n, st1) refl refl (record {})
        (at_op naming env store st stk [] from (space l pending h fs) (op.Text j) to at (λ m. go st1 stk [] m (space l pending (added (still_code n) h) fs)) (rw has refl))
    stmt_goes l known pending st stk h fs none from (comment_stmt t) to (j, has, at) fit =
        let n = st.next a_node in
        let st1 = made_node (comment_content t) st in
        ends (still_code n, st1) refl refl (record {})
        (at_op naming env store st stk [] from (space l pending h fs) (op.Comment j) to at (λ m. go st1 stk [] m (space l pending (added (still_code n) h) fs)) (rw has refl))
    stmt_goes l known pending st stk h fs none from (put e) to (last, at_expr, at) fit =
        let b = bind_exprs_as naming env.app (with l) (expr e no_exprs) st in
        let x = place b in
        let n = x.state.next a_node in
        let st1 = made_node (text_content (va.text_of (first_value x.pairs))) x.state in
        ends (put_code n x.spot, st1) refl refl (record {})
        (on naming env store (test_comes l known pending h fs st stk true from e last at_expr)
        (at_op naming env store b.state (pushed stk (bind_expr_as naming env.app (with l) e st).id) b.made last (space l pending h fs) op.Put to at
        (λ m. go st1 stk [] m (space l pending (added (put_code n x.spot) h) fs))
        (rw (popped-last stk (None, (bind_expr_as naming env.app (with l) e st).id)) refl)))
    stmt_goes l known pending st stk h fs none from (element tag tps b) to (j, parts, flushes, body, last, has, at_open, at_parts, at_flush, at_body, at_close) fit =
        let k : Making = record idle { tag = tag } in
        let y = bind_written_as naming env.app (mwritten_parts (with l) tps) st in
        let g = flush_parts y.parts y.state in
        let n = g.state.next a_node in
        let st1 = made_node (element_content tag g.attrs) g.state in
        let frame : Frame = record { here = h; kind = in_element n y.made g.spots y.parts } in
        let inner = fresh (next_at h) in
        let P = Placed env c (with l) w (next_at h) (element tag tps b) in
        first naming env store P live_of is_deep (go st stk [] from (space l pending h fs)) (go st1 stk [] body (space l pending inner (fs ++ frame ∷ [])))
        (grow_stmt_as naming env.app components yields (with l) (next_at h) (element tag tps b) st) (λ r. go r.1 stk [] to (space l pending (added r.0 h) fs))
        (on naming env store (at_op naming env store st stk [] from (space l pending h fs) (op.Open j) parts at_open (λ m. go st stk [] m (room env c i a l v w pending h k left fs)) (rw has refl))
        (on naming env store (parts_come naming env store sound c i a l v w known is pending h left fs (mpassed_parts v) spreads k st stk [] parts tps flushes at_parts)
        (at_op naming env store y.state stk y.made flushes (room env c i a l v w pending h (with_parts y.parts k) left fs) op.Flush body at_flush
        (λ m. go st1 stk [] m (space l pending inner (fs ++ frame ∷ []))) refl)))
        (onto naming env store (PlacedIn env c (with l) w (next_at h) 0 b) lives_of are_deep P live_of is_deep
        (go st1 stk [] body (space l pending inner (fs ++ frame ∷ []))) (grow_body_as naming env.app components yields (with l) (next_at h) 0 b st1)
        (λ r. go r.1 stk [] last (space l pending (adds r.0 inner) (fs ++ frame ∷ [])))
        (λ r. let m = install_parts n 0 y.parts r.1 in (element_live n y.made g.spots m.spots r.0, m.state)) (λ r. go r.1 stk [] to (space l pending (added r.0 h) fs))
        (body_goes l known pending st1 stk inner (fs ++ frame ∷ []) (frame_is fs h (in_element n y.made g.spots y.parts) (λ m r. refl)) body b last at_body fit)
        (λ r d. d)
        (λ r fine placed.
        let m = install_parts n 0 y.parts r.1 in
        ends (element_code n y.made g.spots m.spots r.0, m.state) refl fine placed
        (at_op naming env store r.1 stk [] last (space l pending (adds r.0 inner) (fs ++ frame ∷ [])) op.Close to at_close
        (λ t. go m.state stk [] t (space l pending (added (element_code n y.made g.spots m.spots r.0) h) fs))
        (rw (popped-last fs frame, closed_codes r.0 inner refl) refl))))
    stmt_goes l known pending st stk h fs none from (if_stmt e unless b b') to (test, body, jump, other, last, at_test, at_if, at_body, at_else, at_other, at_end) (fit, fit') =
        let y = bind_exprs_as naming env.app (with l) (expr e no_exprs) st in
        let x = place y in
        let z : Choice = record { unless = unless; first = body; second = other; sight = seen env c (with l) w } in
        let frame : Bool → Frame = λ u. record { here = h; kind = in_branch z x.spot u } in
        let inner : Bool → Here = λ u. fresh ((if u then main else otherwise) ∷ next_at h) in
        let P = Placed env c (with l) w (next_at h) (if_stmt e unless b b') in
        let choice : ChoiceAt env c (with l) w unless b b' z =
        (refl, refl, fits l known, (jump, other, op.Else last, at_body, at_else, record {}, fit), (last, to, op.EndIf, at_other, at_end, record {}, fit')) in
        let whole : Bool → Live × State = λ u.
        if u then branch_from x.spot true (or_comment (grow_body_as naming env.app components yields (with l) (main ∷ next_at h) 0 b x.state))
        else branch_from x.spot false (or_comment (grow_body_as naming env.app components yields (with l) (otherwise ∷ next_at h) 0 b' x.state)) in
        let u = takes_first unless (first_value x.pairs) in
        let close : (u : Bool) (r : Codes × State) → are_deep (lives_of r.0) ≡ false → ((k : Option ℕ) → P (branch_code z x.spot u k r.0))
        → Goes naming env store P live_of is_deep (go r.1 stk [] last (space l pending (adds r.0 (inner u)) (fs ++ frame u ∷ []))) (branch_from x.spot u (or_comment (lives_of r.0, r.1)))
        (λ y. go y.1 stk [] to (space l pending (added y.0 h) fs)) =
        λ u r fine is. closes l pending stk h fs e unless b b' z x.spot u last to at_end r fine is (inner u) refl in
        let up : (u : Bool) (r : Lives × State) → are_deep r.0 ≡ true → is_deep (branch_from x.spot u (or_comment r)).0 ≡ true = λ u r d.
        either (have_node r.0)
        (λ t. is_deep (branch_from x.spot u (cond {A = Arm} t (record { comment = None; lives = r.0; state = r.1 }) (record { comment = Some (r.1.next a_node); lives = r.0; state = made_node (comment_content []) r.1 }))).0 ≡ true) d d in
        first naming env store P live_of is_deep (go st stk [] from (space l pending h fs)) (go x.state stk [] (if u then body else other) (space l pending (inner u) (fs ++ frame u ∷ [])))
        (whole u) (λ r. go r.1 stk [] to (space l pending (added r.0 h) fs))
        (on naming env store (test_comes l known pending h fs st stk false from e test at_test)
        (at_op naming env store y.state (pushed stk (bind_expr_as naming env.app (with l) e st).id) y.made test (space l pending h fs) (if_op unless other) body at_if
        (λ n. go x.state stk [] (if u then n else other) (space l pending (inner u)
        (fs ++ record { here = h; kind = in_branch (record { unless = unless; first = n; second = other; sight = seen env c (with l) w }) x.spot u } ∷ [])))
        (if_step naming env store (mach y.state (pushed stk (bind_expr_as naming env.app (with l) e st).id) y.made test (space l pending h fs)) unless other
        ∙ (rw (popped-last stk (None, (bind_expr_as naming env.app (with l) e st).id)) refl))))
        (either u
        (λ t. Goes naming env store P live_of is_deep (go x.state stk [] (if t then body else other) (space l pending (inner t) (fs ++ frame t ∷ []))) (whole t) (λ r. go r.1 stk [] to (space l pending (added r.0 h) fs)))
        (onto naming env store (PlacedIn env c (with l) w (main ∷ next_at h) 0 b) lives_of are_deep P live_of is_deep
        (go x.state stk [] body (space l pending (inner true) (fs ++ frame true ∷ []))) (grow_body_as naming env.app components yields (with l) (main ∷ next_at h) 0 b x.state)
        (λ r. go r.1 stk [] jump (space l pending (adds r.0 (inner true)) (fs ++ frame true ∷ [])))
        (λ r. branch_from x.spot true (or_comment r)) (λ r. go r.1 stk [] to (space l pending (added r.0 h) fs))
        (body_goes l known pending x.state stk (inner true) (fs ++ frame true ∷ []) (frame_is fs h (in_branch z x.spot true) (λ m r. refl)) body b jump at_body fit)
        (up true)
        (λ r fine placed.
        first naming env store P live_of is_deep (go r.1 stk [] jump (space l pending (adds r.0 (inner true)) (fs ++ frame true ∷ [])))
        (go r.1 stk [] last (space l pending (adds r.0 (inner true)) (fs ++ frame true ∷ []))) (branch_from x.spot true (or_comment (lives_of r.0, r.1)))
        (λ r. go r.1 stk [] to (space l pending (added r.0 h) fs))
        (at_op naming env store r.1 stk [] jump (space l pending (adds r.0 (inner true)) (fs ++ frame true ∷ [])) (op.Else last) other at_else
        (λ n. go r.1 stk [] last (space l pending (adds r.0 (inner true)) (fs ++ frame true ∷ []))) (rw (popped-last fs (frame true)) refl))
        (close true r fine (λ k. (choice, placed)))))
        (onto naming env store (PlacedIn env c (with l) w (otherwise ∷ next_at h) 0 b') lives_of are_deep P live_of is_deep
        (go x.state stk [] other (space l pending (inner false) (fs ++ frame false ∷ []))) (grow_body_as naming env.app components yields (with l) (otherwise ∷ next_at h) 0 b' x.state)
        (λ r. go r.1 stk [] last (space l pending (adds r.0 (inner false)) (fs ++ frame false ∷ [])))
        (λ r. branch_from x.spot false (or_comment r)) (λ r. go r.1 stk [] to (space l pending (added r.0 h) fs))
        (body_goes l known pending x.state stk (inner false) (fs ++ frame false ∷ []) (frame_is fs h (in_branch z x.spot false) (λ m r. refl)) other b' last at_other fit')
        (up false) (λ r fine placed. close false r fine (λ k. (choice, placed)))))
    stmt_goes l known pending st stk h fs none from (component_stmt n tps given ss) to (q, arguments, parts, slots, rest, last, number, at_comp, at_args, at_parts, at_blocks, at_bare, at_invoke) fit =
        let k : Making = record idle { class = q; start = arguments } in
        let x = bind_args_as naming env.app (with l) given st in
        let y = bind_written_as naming env.app (mwritten_parts (with l) tps) x.state in
        let k1 = with_args x.names parts k in
        let k2 = with_parts y.parts k1 in
        let (xs, there, p) = slots_come naming env store sound c i a l v w known is pending h left fs none k2 y.state stk (x.made ++ y.made) slots ss rest at_blocks fit in
        let (behind, o, at_behind, ends_parts) = parts_end env c (texts_of l) slots ss rest last at_blocks at_bare in
        let k3 = with_slots xs k2 in
        let b = y.state.next a_block in
        let P = Placed env c (with l) w (next_at h) (component_stmt n tps given ss) in
        let before =
        on naming env store (at_op naming env store st stk [] from (space l pending h fs) (op.Comp q) arguments at_comp (λ m. go st stk [] m (room env c i a l v w pending h (record k { start = m }) left fs)) refl)
        (on naming env store (arguments_come naming env store sound c i a l v w known is pending h left fs k st stk [] arguments refl given parts at_args)
        (on naming env store (parts_come naming env store sound c i a l v w known is pending h left fs (mpassed_parts v) spreads k1 x.state stk x.made parts tps slots at_parts)
        (on naming env store p (bare_comes naming env store sound c i a l v w known is pending h left fs none k3 y.state stk (x.made ++ y.made) rest ss last at_bare)))) in
        first naming env store P live_of is_deep (go st stk [] from (space l pending h fs)) (go y.state stk (x.made ++ y.made) last (room env c i a l v w pending h k3 left fs))
        (grow_stmt_as naming env.app components yields (with l) (next_at h) (component_stmt n tps given ss) st) (λ r. go r.1 stk [] to (space l pending (added r.0 h) fs))
        before
        (starts naming env store P live_of is_deep y.state stk (x.made ++ y.made) last (room env c i a l v w pending h k3 left fs) op.Invoke to at_invoke
        (grow_stmt_as naming env.app components yields (with l) (next_at h) (component_stmt n tps given ss) st) (λ t r. go r.1 stk [] t (space l pending (added r.0 h) fs))
        (invokes y.state stk (x.made ++ y.made) last (seen env c (with l) w) pending h fs q n number k3 refl c (with l) w tps given ss
        (c, parts, slots, behind, o, xs, w, refl, known, is, passes, at_parts, at_behind, ends_parts, there)))
    stmt_goes l known pending st stk h fs none from (each e key ns b b') to (j, test, item, body, over, jump, other, last, at_test, has, at_each, at_item, at_body, at_end, at_else, at_other, at_last) (two, fit, fit') =
        let y = bind_exprs_as naming env.app (with l) (expr e no_exprs) st in
        let x = place y in
        let id = (bind_expr_as naming env.app (with l) e st).id in
        let P = Placed env c (with l) w (next_at h) (each e key ns b b') in
        let vs = r.values_listed (first_value x.pairs) in
        first naming env store P live_of is_deep (go st stk [] from (space l pending h fs))
        (each_into (record { key = key; value = parameter_symbol symbols (slice_get ns 0); index = parameter_symbol symbols (slice_get ns 1); body = body; other = other; sight = seen env c (with l) w })
        x.spot item (r.entries key 0 [] vs) x.state stk (space l pending h fs))
        (grow_stmt_as naming env.app components yields (with l) (next_at h) (each e key ns b b') st) (λ r. go r.1 stk [] to (space l pending (added r.0 h) fs))
        (on naming env store (test_comes l known pending h fs st stk false from e test at_test)
        (subst (λ n. Comes_as naming env store (go y.state (pushed stk id) y.made test (space l pending h fs))
        (each_into (record { key = key; value = parameter_symbol symbols (slice_get ns 0); index = parameter_symbol symbols (slice_get ns 1); body = n; other = other; sight = seen env c (with l) w })
        x.spot item (r.entries key 0 [] vs) x.state stk (space l pending h fs))) at_item.1
        (subst (λ o. Comes_as naming env store (go y.state (pushed stk id) y.made test (space l pending h fs))
        (each_into (record { key = key; value = (operands o).0; index = (operands o).1; body = suc item; other = other; sight = seen env c (with l) w })
        x.spot item (r.entries key 0 [] vs) x.state stk (space l pending h fs))) at_item.0
        (at_op naming env store y.state (pushed stk id) y.made test (space l pending h fs) (op.Each j other) item at_each
        (λ n. each_into (record { key = key; value = (operands (op_at (program_no env c) n)).0; index = (operands (op_at (program_no env c) n)).1; body = suc n; other = other; sight = seen env c (with l) w })
        x.spot n (r.entries key 0 [] vs) x.state stk (space l pending h fs))
        (rw (has, popped-last stk (None, id)) refl)))))
        (each_goes l known pending stk h fs e key ns b b' two fit fit' x.spot item body over jump other last to at_item at_body at_end at_else at_other at_last
        (λ l known pending st stk h fs none from to at fit. body_goes l known pending st stk h fs none from b to at fit)
        (λ l known pending st stk h fs none from to at fit. body_goes l known pending st stk h fs none from b' to at fit) x.state vs)
    stmt_goes l known pending st stk h fs none from (let_stmt es ns b) to (test, params, body, last, at_exprs, at_let, at_params, at_body, at_end) (known_ns, fit) =
        let x = bind_exprs_as naming env.app (with l) es st in
        let y = bind_params ns x.ids x.state in
        let more = l ++ y.names in
        let n = count_exprs es in
        let count = length-map x.ids unnamed ∙ counted naming env (bind_deep_as naming (getters_in env.app (with l)) env.app (s.own (with l))) (with l) es st in
        let sight = seen env c (with l) w in
        let kind : List Id → Kind = λ ids. in_let sight pending ids in
        let frame : List Id → Frame = λ ids. record { here = h; kind = in_let sight pending ids } in
        let inner = fresh (main ∷ next_at h) in
        let made = x.made ++ y.made in
        let rest = unused ns x.ids in
        let P = Placed env c (with l) w (next_at h) (let_stmt es ns b) in
        let known' : Known symbols (texts_of more) =
        subst (Known symbols) (sym (names_more l ns x.ids x.state)) (known_both symbols (texts_of l) ns known known_ns) in
        let at_body' = subst (λ ts. BodyAt (program_no env c) env.manifest (class_no env c) symbols ts body b last) (sym (names_more l ns x.ids x.state)) at_body in
        first naming env store P live_of is_deep (go st stk [] from (space l pending h fs)) (go y.state stk [] body (space more rest inner (fs ++ frame made ∷ [])))
        (grow_stmt_as naming env.app components yields (with l) (next_at h) (let_stmt es ns b) st) (λ r. go r.1 stk [] to (space l pending (added r.0 h) fs))
        (on naming env store (exprs_come naming env store sound c i a l v w known is pending h idle left fs st stk [] false from es test at_exprs)
        (on naming env store
        (at_op naming env store x.state (stk ++ map unnamed x.ids) x.made test (space l pending h fs) (op.Let n) params at_let (λ t. go x.state stk [] t (space l x.ids inner (fs ++ frame x.made ∷ [])))
        (rw (lower_is stk (map unnamed x.ids) n count, upper_is stk (map unnamed x.ids) n count, positional_all x.ids) refl))
        (params_come naming env store c i a v w inner h left fs idle op.Bind (λ n m. refl) kind (record { more = λ ids x. refl }) l x.ids x.state stk x.made params ns body at_params)))
        (onto naming env store (PlacedIn env c (with more) w (main ∷ next_at h) 0 b) lives_of are_deep P live_of is_deep
        (go y.state stk [] body (space more rest inner (fs ++ frame made ∷ []))) (grow_body_as naming env.app components yields (with more) (main ∷ next_at h) 0 b y.state)
        (λ r. go r.1 stk [] last (space more rest (adds r.0 inner) (fs ++ frame made ∷ [])))
        (λ r. (let_live made (refs_of y.names) r.0, r.1)) (λ r. go r.1 stk [] to (space l pending (added r.0 h) fs))
        (body_goes more known' rest y.state stk inner (fs ++ frame made ∷ []) (frame_is fs h (in_let sight pending made) (λ m r. refl)) body b last at_body' fit)
        (λ r d. d)
        (λ r fine placed.
        ends (let_code made (refs_of y.names) r.0, r.1) refl fine
        (subst (λ ls. PlacedIn env c (with (l ++ ls)) w (main ∷ next_at h) 0 b r.0) (sym (named_back ns x.ids x.state)) placed)
        (at_op naming env store r.1 stk [] last (space more rest (adds r.0 inner) (fs ++ frame made ∷ [])) op.EndLet to at_end
        (λ t. go r.1 stk [] t (space l pending (added (let_code made (refs_of y.names) r.0) h) fs))
        (rw (popped-last fs (frame made), closed_codes r.0 inner refl, bound_are symbols l y.names) refl))))
    stmt_goes l known pending st stk h fs none from (yield es n) to (j, last, at_exprs, has, at) fit =
        let x = bind_exprs_as naming env.app (with l) es st in
        let k = count_exprs es in
        let count = length-map x.ids unnamed ∙ counted naming env (bind_deep_as naming (getters_in env.app (with l)) env.app (s.own (with l))) (with l) es st in
        let P = Placed env c (with l) w (next_at h) (yield es n) in
        first naming env store P live_of is_deep (go st stk [] from (space l pending h fs)) (go x.state (stk ++ map unnamed x.ids) x.made last (space l pending h fs))
        (yields n x.made x.ids (next_at h) x.state) (λ r. go r.1 stk [] to (space l pending (added r.0 h) fs))
        (exprs_come naming env store sound c i a l v w known is pending h idle left fs st stk [] false from es last at_exprs)
        (starts naming env store P live_of is_deep x.state (stk ++ map unnamed x.ids) x.made last (space l pending h fs) (op.Yield k j) to at
        (yields n x.made x.ids (next_at h) x.state) (λ t r. go r.1 stk [] t (space l pending (added r.0 h) fs))
        (rw (has, lower_is stk (map unnamed x.ids) k count, upper_is stk (map unnamed x.ids) k count, positional_all x.ids)
        (yields_go x.state stk x.made last (seen env c (with l) w) pending h fs n x.ids c i a l w es passes)))

    pub body_goes : (l : Names) → Known symbols (texts_of l) → (pending : List ℕ) (st : State) (stk : List Pushed) (h : Here) (fs : List Frame) → NoneUnder fs
        → (from : ℕ) (b : Body) (to : ℕ) → BodyAt (program_no env c) env.manifest (class_no env c) symbols (texts_of l) from b to → HasParamsIn symbols b
        → Goes naming env store (PlacedIn env c (with l) w h.path h.index b) lives_of are_deep (go st stk [] from (space l pending h fs))
        (grow_body_as naming env.app components yields (with l) h.path h.index b st) (λ r. go r.1 stk [] to (space l pending (adds r.0 h) fs))
    body_goes l known pending st stk h fs none from end to at fit =
        ends (no_codes, st) refl refl (record {}) (subst (λ n. Comes_as naming env store (go st stk [] from (space l pending h fs)) (go st stk [] n (space l pending h fs))) at here)
    body_goes l known pending st stk h fs none from (stmt x b) to (next, at, after) (fit, fit_rest) =
        let P = PlacedIn env c (with l) w h.path h.index (stmt x b) in
        onto naming env store (Placed env c (with l) w (next_at h) x) live_of is_deep P lives_of are_deep
        (go st stk [] from (space l pending h fs)) (grow_stmt_as naming env.app components yields (with l) (next_at h) x st)
        (λ r. go r.1 stk [] next (space l pending (added r.0 h) fs))
        (λ r. let z = grow_body_as naming env.app components yields (with l) h.path (suc h.index) b r.1 in (live_and r.0 z.0, z.1)) (λ r. go r.1 stk [] to (space l pending (adds r.0 h) fs))
        (stmt_goes l known pending st stk h fs none from x next at fit)
        (λ r d. or_first (is_deep r.0) _ d)
        (λ r fine placed.
        onto naming env store (PlacedIn env c (with l) w h.path (suc h.index) b) lives_of are_deep P lives_of are_deep
        (go r.1 stk [] next (space l pending (added r.0 h) fs)) (grow_body_as naming env.app components yields (with l) h.path (suc h.index) b r.1)
        (λ z. go z.1 stk [] to (space l pending (adds z.0 (added r.0 h)) fs))
        (λ z. (live_and (live_of r.0) z.0, z.1)) (λ r. go r.1 stk [] to (space l pending (adds r.0 h) fs))
        (body_goes l known pending r.1 stk (added r.0 h) fs none next b to after fit_rest)
        (λ z d. or_second (is_deep (live_of r.0)) (are_deep z.0) d)
        (λ z fine' placed'. ends (code_and r.0 z.0, z.1) refl (or_none (is_deep (live_of r.0)) (are_deep (lives_of z.0)) fine fine') (placed, placed') here))
