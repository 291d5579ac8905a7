-- The whole page is appended.
use Rattle.gl_base.specs.Texts.{Text}
use Rattle.gl_ast.specs.Template.{Plain, Body}
use Rattle.std.proofs.Common.{◌≡◌, ℕ, zero, suc, List, [], ◌∷◌, ◌++◌, Some, None, refl, sym, ◌∙◌, ap, subst}
use Rattle.gl_ops.specs.declared.op.Op.TheVariants as op
use Rattle.gl_meaning.specs.Eval.{Store, class_named}
use Rattle.gl_wire.specs.Symbols.{symbols_of}
use Rattle.gl_opc.specs.Numbers.{class_number, keys}
use Rattle.gl_opc.specs.Spans.{BodyAt}
use Rattle.gl_plain.specs.Ids.{an_instance, instance_id}
use Rattle.gl_plain.specs.State.{Inst, MScope, mscope, mnothing, instance_row, State, make}
use Rattle.gl_plain.specs.Naming.{Naming}
use Rattle.gl_plain.specs.Live.{component_live, is_deep, are_deep}
use Rattle.gl_plain.specs.Grow.{grow_cells_as, grow_components_as}
use Rattle.gl_plain.specs.Renew.{fresh_body_as}
use Rattle.gl_machine.specs.Sight.{sight, not_passed}
use Rattle.gl_machine.specs.Code.{Code, component_code, live_of, lives_of}
use Rattle.gl_machine.specs.Outcome.{Outcome, ok, on_ok, Ends}
use Rattle.gl_machine.specs.RenewCode.{Runs, start}
use Rattle.gl_machine.specs.Params.{HasParamsIn}
use Rattle.gl_machine.specs.Env.{Env, class_no, program_no, symbols_at}
use Rattle.gl_machine.specs.Placed.{Fits, BodyThere, PlacedIn, Follows, RunsRight_as, RunsEnd}
use Rattle.gl_machine.specs.Root.{PlacedRoot, append_page_as}
use Rattle.gl_machine.proofs.Following.{follow_on}
use Rattle.gl_machine.proofs.Sound.{Sound}
use Rattle.gl_machine.proofs.Symbols.{known_none}
use Rattle.gl_machine.proofs.Layers.{cells_named}
use Rattle.gl_machine.proofs.Ending.{ends_deep, ends_on}

-- where the root's class begins
module _ (naming : Naming) (env : Env) (store : Store) (sound : Sound env) (q : ℕ) (number : class_number env.manifest env.app.root ≡ Some q) (st : State) where
  abbrev fs : List (Text × Plain)
  fs = (class_named env.app.root env.app.classes).fields

  same_fields : fs ≡ (class_no env q).fields
  same_fields = ap (λ k. k.fields) (sound.classes env.app.root q number).class

  abbrev root_inst : List (Text × Plain) → Inst
  root_inst fs = let c = grow_cells_as naming env.app store [] fs st in record { id = c.state.next an_instance; path = []; cells = c.names }

  abbrev ms : MScope
  ms = mscope (root_inst fs) [] [] mnothing

  abbrev template : Body
  template = (class_named env.app.root env.app.classes).template

  root_fits : Fits env q ms not_passed
  root_fits = record {
    known = known_none (symbols_at env q);
    is = record { cells = cells_named naming env store [] fs st ∙ ap keys same_fields; class = (sound.classes env.app.root q number).class };
    passes = refl;
  }

  root_there : BodyThere env q [] 0 template
  root_there =
      let low = sound.classes env.app.root q number in
      let (last, at_body, at_done) = low.lowered in (
        last,
        _,
        op.Done,
        subst (λ y. BodyAt (program_no env q) env.manifest (class_no env q) (symbols_of (class_named y env.app.classes).template) [] 0 template last) (sym low.name) at_body,
        at_done,
        record {},
        subst (λ y. HasParamsIn (symbols_of (class_named y env.app.classes).template) template) (sym low.name) low.params,
      )

  abbrev from_root : Runs → ℕ → List (Text × Plain) → Outcome (Code × State)
  from_root run m fs' =
      let c = grow_cells_as naming env.app store [] fs' st in
      let i = root_inst fs' in
      on_ok (run (start (sight q i [] [] not_passed) 0 [] m) (make an_instance (instance_row i) c.state)) (λ r. ok (component_code i (instance_id i.id ∷ ([] ++ c.made)) [] [] None r.0, r.1))

  pub page_grows : (run : Runs) → RunsRight_as naming env store run → (m : ℕ)
      → Follows (PlacedRoot env) live_of is_deep (append_page_as naming m env store run q st) (grow_components_as naming m env.app store [] [] [] None mnothing st)
  page_grows run runs zero = refl
  page_grows run runs (suc m) =
      let c = grow_cells_as naming env.app store [] fs st in
      let i = root_inst fs in
      let st1 = make an_instance (instance_row i) c.state in
      subst (λ fs'. Follows (PlacedRoot env) live_of is_deep (from_root run m fs') (grow_components_as naming (suc m) env.app store [] [] [] None mnothing st)) same_fields
      (follow_on (PlacedIn env q ms not_passed [] 0 template) lives_of are_deep (PlacedRoot env) live_of is_deep
      (run (start (sight q i [] [] not_passed) 0 [] m) st1) (fresh_body_as naming env.app store m ms [] template st1)
      (λ r. ok (component_code i (instance_id i.id ∷ ([] ++ c.made)) [] [] None r.0, r.1)) (λ r. (component_live i (instance_id i.id ∷ ([] ++ c.made)) [] [] None r.0, r.1))
      (runs q ms not_passed root_fits 0 template root_there [] m st1) (λ r d. d) (λ r fine placed. (refl, fine, (q, placed))))

  pub page_ends : (run : ℕ → Runs) → RunsEnd env store run → (m : ℕ) → Ends (λ n. append_page_as naming m env store (run n) q st)
  page_ends run runs zero = ends_deep
  page_ends run runs (suc m) =
      let c = grow_cells_as naming env.app store [] fs st in
      let i = root_inst fs in
      let st1 = make an_instance (instance_row i) c.state in
      subst (λ fs'. Ends (λ n. from_root (run n) m fs')) same_fields
      (ends_on (λ n. run n (start (sight q i [] [] not_passed) 0 [] m) st1) (λ r. (component_code i (instance_id i.id ∷ ([] ++ c.made)) [] [] None r.0, r.1))
      (runs q ms not_passed root_fits 0 template root_there [] m st1))
