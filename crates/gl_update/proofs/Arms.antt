-- What was rendered of each kind of statement, and its update.
use Rattle.std.proofs.Common.{◌≡◌, ℕ, suc, Bool, List, [], ◌∷◌, Option, Some, None, map, rules, sym, ◌∙◌, ap, subst}
use Rattle.gl_meaning.specs.Path.{Path}
use Rattle.gl_opc.specs.declared.app.App.{App}
use Rattle.gl_plain.specs.Ids as p
use Rattle.gl_plain.specs.Naming.{by_number}
use Rattle.gl_plain.specs.Live as l
use Rattle.gl_plain.specs.Renew.{renew_attrs, renew_mods}
use Rattle.gl_plain.specs.State.{Names, Inst}
use Rattle.gl_machine.specs.Code as c
use Rattle.gl_machine.specs.Code.{Code as PlainCode, Codes as PlainCodes}
use Rattle.gl_machine.specs.Outcome.{ok, on_ok}
use Rattle.gl_meaning.specs.Scope.{Source}
use Rattle.gl_machine.specs.RenewCode.{Runs}
use Rattle.gl_guards.specs.Along.{along_code_as, along_codes_as, along_body_as, along_page_as, along_root_code_as}
use Rattle.gl_vm.specs.View.{Tables, stamps, name_stamps, state_of}
use Rattle.gl_vm.specs.Steps.{Does}
use Rattle.gl_vm.specs.declared.vm.Vm.{Vm}
use Rattle.gl_code.specs.View.{refs_made, seen_owner}
use Rattle.gl_code.specs.CodeView.{seen_attr_spot, seen_choice, seen_code, seen_codes, seen_mod_spot, seen_spot, component_seen, stamp_of}
use Rattle.gl_code.specs.Cells.{CellList}
use Rattle.gl_code.specs.declared.code.Code.{Code, the_lemmas}
use Rattle.gl_code.specs.declared.code.Codes.{Codes}
use Rattle.gl_code.specs.declared.code.Code.TheVariants.{Still, Put, Element, Branch, Let, Component, Root, Yield}
use Rattle.gl_code.specs.declared.fault.VmFault.{VmFault}
use Rattle.gl_code.specs.declared.sight.Owner.{Owner}
use Rattle.gl_code.specs.Renewing.{Renewal, Renews, RenewFails}
use Rattle.gl_update.proofs.Renewing.{renews_same, renews_as, renews_does, renews_in, does_renews, fails_same, fails_in, does_fails}

module _ (n : Tables) where
  pub still_is : (node : _) → seen_code n (Still node) ≡ c.still_code node.1
  still_is node = search (rules, the_lemmas)

  pub put_is : (node spot : _) → seen_code n (Put node spot) ≡ c.put_code node.1 (seen_spot spot)
  put_is node spot = search (rules, the_lemmas)

  pub element_is : (node made attrs mods : _) (body : Codes) → seen_code n (Element node made attrs mods body) ≡ c.element_code node.1 (refs_made made) (map seen_attr_spot attrs.items) (map seen_mod_spot mods.items) (seen_codes n body)
  element_is node made attrs mods body = search (rules, the_lemmas)

  pub branch_is : (choice spot u comment : _) (body : Codes) → seen_code n (Branch choice spot u comment body) ≡ c.branch_code (seen_choice n choice) (seen_spot spot) u (stamp_of comment) (seen_codes n body)
  branch_is choice spot u comment body = search (rules, the_lemmas)

  pub let_is : (made params : _) (body : Codes) → seen_code n (Let made params body) ≡ c.let_code (refs_made made) (stamps params) (seen_codes n body)
  let_is made params body = search (rules, the_lemmas)

  pub component_is : (owner block made args : _) (body : Codes) → seen_code n (Component owner block made args body) ≡ component_seen (seen_owner n owner.value) (p.block_id block.1 ∷ refs_made made) (refs_made owner.value.cells) (name_stamps args.value) (Some block.1) (seen_codes n body)
  component_is owner block made args body = search (rules, the_lemmas)

  pub yield_is : (name made params : _) (body : Codes) → seen_code n (Yield name made params body) ≡ c.yield_code name (refs_made made) (stamps params) (seen_codes n body)
  yield_is name made params body = search (rules, the_lemmas)

module _ (a : App) (cells : CellList) (left : ℕ) (q : Path) where
  -- the update of a statement by what it is
  pub arm : (x y : Code) (k l : Tables → PlainCode) (old new : Vm) → ((n : Tables) → seen_code n x ≡ k n) → ((n : Tables) → seen_code n y ≡ l n) → Renews a cells (λ n run. along_code_as by_number run left q (k n)) old l new
      → Renews a cells (λ n run. along_code_as by_number run left q (seen_code n x)) old (λ n. seen_code n y) new
  arm x y k l old new e d r =
      renews_same a cells (λ n run. along_code_as by_number run left q (k n)) (λ n run. along_code_as by_number run left q (seen_code n x)) (λ n. seen_code n y) old new
      (λ n run u. ap (λ z. along_code_as by_number run left q z (state_of n old u)) (sym (e n)))
      (renews_as a cells (λ n run. along_code_as by_number run left q (k n)) l (λ n. seen_code n y) old new (λ n. sym (d n)) r)

  pub arm_fails : (x : Code) (k : Tables → PlainCode) (old : Vm) (e : VmFault) → ((n : Tables) → seen_code n x ≡ k n) → RenewFails {A = PlainCode} a cells (λ n run. along_code_as by_number run left q (k n)) old e
      → RenewFails {A = PlainCode} a cells (λ n run. along_code_as by_number run left q (seen_code n x)) old e
  arm_fails x k old f e r =
      fails_same a cells (λ n run. along_code_as by_number run left q (k n)) (λ n run. along_code_as by_number run left q (seen_code n x)) old f (λ n run u. ap (λ z. along_code_as by_number run left q z (state_of n old u)) (sym (e n))) r

  -- the path of a body is another way to write it
  abbrev pub Below : Path → Codes → Renewal PlainCodes
  Below w x = λ n run. along_codes_as by_number run left w 0 (seen_codes n x)

  -- An element: attributes, body, modifiers.
  module _ (node : ℕ) (made : List p.Id) (xs : List l.AttrSpot) (zs : List l.ModSpot) where
    abbrev whole : PlainCodes → PlainCode
    whole cs = c.element_code node made xs zs cs

    pub element_renews : (x y : Codes) (old v1 v2 new : Vm) → Does (λ n. renew_attrs node xs) old v1 → Renews a cells (Below q x) v1 (λ n. seen_codes n y) v2 → Does (λ n. renew_mods zs) v2 new
        → Renews a cells (λ n run. along_code_as by_number run left q (whole (seen_codes n x))) old (λ n. whole (seen_codes n y)) new
    element_renews x y old v1 v2 new d r e =
        does_renews a cells (λ n. renew_attrs node xs) (λ n run st. on_ok (along_codes_as by_number run left q 0 (seen_codes n x) st) (λ z. ok (whole z.0, renew_mods zs z.1))) (λ n. whole (seen_codes n y)) old v1 new d
        (renews_does a cells (Below q x) (λ n cs. whole cs) (λ n. renew_mods zs) (λ n. seen_codes n y) v1 v2 new r e)

    pub element_fails : (x : Codes) (old v1 : Vm) (f : VmFault) → Does (λ n. renew_attrs node xs) old v1 → RenewFails a cells (Below q x) v1 f → RenewFails {A = PlainCode} a cells (λ n run. along_code_as by_number run left q (whole (seen_codes n x))) old f
    element_fails x old v1 f d r =
        does_fails a cells (λ n. renew_attrs node xs) (λ n run st. on_ok (along_codes_as by_number run left q 0 (seen_codes n x) st) (λ z. ok (whole z.0, renew_mods zs z.1))) old v1 f d
        (fails_in a cells (Below q x) (λ n cs. whole cs) (λ n. renew_mods zs) v1 f r)

  -- A component: its path is the instance's, and one level less is left.
  module _ (i : Inst) (made gm : List p.Id) (args : Names) (k : Option ℕ) where
    abbrev component : PlainCodes → PlainCode
    component cs = c.component_code i made gm args k cs

    abbrev Within : ℕ → Path → Codes → Renewal PlainCodes
    Within m w x = λ n run. along_body_as by_number run m w (seen_codes n x)

    pub component_renews : (m : ℕ) → left ≡ suc m → (w : Path) → i.path ≡ w → (x y : Codes) (old new : Vm) → Renews a cells (Within m w x) old (λ n. seen_codes n y) new
        → Renews a cells (λ n run. along_code_as by_number run left q (component (seen_codes n x))) old (λ n. component (seen_codes n y)) new
    component_renews m e w d x y old new r =
        subst (λ j. Renews a cells (λ n run. along_code_as by_number run j q (component (seen_codes n x))) old (λ n. component (seen_codes n y)) new) (sym e)
        (renews_in a cells (Within m i.path x) (λ n cs. component cs) (λ n. seen_codes n y) old new (subst (λ z. Renews a cells (Within m z x) old (λ n. seen_codes n y) new) (sym d) r))

    pub component_fails : (m : ℕ) → left ≡ suc m → (w : Path) → i.path ≡ w → (x : Codes) (old : Vm) (f : VmFault) → RenewFails a cells (Within m w x) old f
        → RenewFails {A = PlainCode} a cells (λ n run. along_code_as by_number run left q (component (seen_codes n x))) old f
    component_fails m e w d x old f r =
        subst (λ j. RenewFails {A = PlainCode} a cells (λ n run. along_code_as by_number run j q (component (seen_codes n x))) old f) (sym e)
        (fails_in a cells (Within m i.path x) (λ n cs. component cs) (λ n st. st) old f (subst (λ z. RenewFails a cells (Within m z x) old f) (sym d) r))

-- The page: the root is a component of which nothing is passed.
module _ (n : Tables) where
  pub root_is : (owner : _) (body : Codes) → seen_code n (Root owner body) ≡ component_seen (seen_owner n owner.value) [] (refs_made owner.value.cells) [] None (seen_codes n body)
  root_is owner body = search (rules, the_lemmas)

module _ (a : App) (cells : CellList) (limit m : ℕ) (e : limit ≡ suc m) (o : Owner) where
  abbrev root : Tables → PlainCodes → PlainCode
  root n cs = component_seen (seen_owner n o) [] (refs_made o.cells) [] None cs

  abbrev Inside : Path → Codes → Renewal PlainCodes
  Inside w x = λ n run. along_page_as by_number run m w (seen_codes n x)

  abbrev Page : Code → Renewal PlainCode
  Page x = λ n run. along_root_code_as by_number limit run (seen_code n x)

  root_at : (x : Code) (b : Codes) (old : Vm) → ((n : Tables) → seen_code n x ≡ root n (seen_codes n b)) → (n : Tables) (run : Runs) (u : Source → Bool)
      → on_ok (along_page_as by_number run m [] (seen_codes n b) (state_of n old u)) (λ r. ok (root n r.0, r.1)) ≡ along_root_code_as by_number limit run (seen_code n x) (state_of n old u)
  root_at x b old is n run u = sym (ap (λ j. along_root_code_as by_number j run (seen_code n x) (state_of n old u)) e ∙ ap (λ z. along_root_code_as by_number (suc m) run z (state_of n old u)) (is n))

  pub page_renews : (x y : Code) (b d : Codes) (w : Path) (old new : Vm) → w ≡ [] → ((n : Tables) → seen_code n x ≡ root n (seen_codes n b)) → ((n : Tables) → seen_code n y ≡ root n (seen_codes n d))
      → Renews a cells (Inside w b) old (λ n. seen_codes n d) new → Renews a cells (Page x) old (λ n. seen_code n y) new
  page_renews x y b d w old new top is are r =
      renews_same a cells (λ n run st. on_ok (Inside [] b n run st) (λ z. ok (root n z.0, z.1))) (Page x) (λ n. seen_code n y) old new (root_at x b old is)
      (renews_as a cells (λ n run st. on_ok (Inside [] b n run st) (λ z. ok (root n z.0, z.1))) (λ n. root n (seen_codes n d)) (λ n. seen_code n y) old new (λ n. sym (are n))
      (renews_in a cells (Inside [] b) root (λ n. seen_codes n d) old new (subst (λ z. Renews a cells (Inside z b) old (λ n. seen_codes n d) new) top r)))

  pub page_fails : (x : Code) (b : Codes) (w : Path) (old : Vm) (f : VmFault) → w ≡ [] → ((n : Tables) → seen_code n x ≡ root n (seen_codes n b)) → RenewFails a cells (Inside w b) old f → RenewFails a cells (Page x) old f
  page_fails x b w old f top is r =
      fails_same a cells (λ n run st. on_ok (Inside [] b n run st) (λ z. ok (root n z.0, z.1))) (Page x) old f (root_at x b old is)
      (fails_in a cells (Inside [] b) root (λ n st. st) old f (subst (λ z. RenewFails a cells (Inside z b) old f) top r))
