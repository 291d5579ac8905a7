-- The sets of an event, laid on the cells.
use Rattle.std.proofs.Common.{◌≡◌, ℕ, Bool, List, [], ◌∷◌, ◌++◌, map, reverse, Some, refl, sym, ap, ◌∙◌, subst}
use Rattle.std.proofs.lemmas.List.{append-nil, append_assoc, map-append, reverse-append}
use Rattle.gl_meaning.specs.Scope.{Source}
use Rattle.gl_plain.specs.Ids.{instance_id}
use Rattle.gl_plain.specs.State.{Names, Inst, instance_row, State, touch}
use Rattle.gl_naming.specs.Numbered.{number}
use Rattle.gl_machine.specs.Code.{live_of}
use Rattle.gl_follows.specs.Sets.{put_at, put_all}
use Rattle.gl_value.specs.View.{view}
use Rattle.gl_vm.specs.Labels.{label, labelled}
use Rattle.gl_vm.specs.View.{Tables, Agrees, state_of}
use Rattle.gl_vm.specs.Steps.{Does}
use Rattle.gl_vm.specs.declared.vm.Vm.{Vm}
use Rattle.gl_code.specs.CodeView.{seen_code}
use Rattle.gl_code.specs.declared.page.Page.{Page}
use Rattle.gl_actions.specs.Found.{instance_in}
use Rattle.gl_actions.specs.Sets as s
use Rattle.gl_actions.specs.World.{World, tables_in}
use Rattle.gl_actions.specs.View.{seen_set, seen_sets}
use Rattle.gl_actions.specs.declared.sets.Set.{Set}
use Rattle.gl_update.proofs.Spots.{does_then, does_as}
use Rattle.gl_fires.specs.Worlds.{put_of, puts_of}
use Rattle.gl_session.specs.Laying.{GivensFor, touch_of, touch_all}
use Rattle.gl_session.specs.declared.laying.Given.{Given}

-- The cells of instances that are kept get the values of the sets.
pub laid_in : (w : World) (page : Page) (xs : List s.Set) (gs : List Given) → GivensFor w page xs gs → (st : State)
    → ((k : ℕ) (i : Inst) (args : Names) → instance_in k (live_of (seen_code (tables_in w) page.code)) ≡ Some (i, args) → st.look (instance_id k) ≡ Some (instance_row i))
    → put_all (puts_of w xs) st ≡ touch_all (map touch_of gs) st
laid_in w page [] [] h st rows = refl
laid_in w page (x ∷ xs) (g ∷ gs) h st rows =
    let row = rows x.owner.1 h.0.inst h.0.args h.0.found in
    let here : put_at (st.look (instance_id x.owner.1)) (put_of w x) st ≡ touch g.cell.1 (label g.cell.1) (labelled (view g.value)) st =
    ap (λ o. put_at o (put_of w x) st) row ∙ (ap (λ r. touch r (number r) (labelled x.to) st) (sym h.0.cell) ∙ ap (λ v. touch g.cell.1 (label g.cell.1) (labelled v) st) (sym h.1)) in
    ap (put_all (puts_of w xs)) here ∙ laid_in w page xs gs h.2 (touch g.cell.1 (label g.cell.1) (labelled (view g.value)) st) rows
laid_in w page [] (g ∷ gs) h st rows = absurd h
laid_in w page (x ∷ xs) [] h st rows = absurd h

-- The cells of sets, one set after another from the last one on.

pub given_both : (w : World) (page : Page) (xs ys : List s.Set) (gs hs : List Given) → GivensFor w page xs gs → GivensFor w page ys hs → GivensFor w page (xs ++ ys) (gs ++ hs)
given_both w page [] ys [] hs f g = g
given_both w page (x ∷ xs) ys (k ∷ gs) hs f g = (f.0, f.1, given_both w page xs ys gs hs f.2 g)
given_both w page [] ys (k ∷ gs) hs f g = absurd f
given_both w page (x ∷ xs) ys [] hs f g = absurd f

-- those that are left, with what is given them, make with what is done all of them
abbrev pub GivenSoFar : World → Page → List s.Set → List Set → List Given → Type 0
GivenSoFar w page all waiting done = (hs : List Given) → GivensFor w page (seen_sets waiting) hs → GivensFor w page all (hs ++ reverse done)

pub given_first : (w : World) (page : Page) (all : List s.Set) (waiting : List Set) (done : List Given) → seen_sets waiting ≡ all → done ≡ [] → GivenSoFar w page all waiting done
given_first w page all waiting done e d hs f =
    subst (λ gs. GivensFor w page all gs) (sym (ap (λ ds. hs ++ reverse ds) d ∙ append-nil hs)) (subst (λ xs. GivensFor w page xs hs) e f)

pub given_next : (w : World) (page : Page) (all : List s.Set) (old new : List Set) (x : Set) (done more : List Given) (g : Given) → old ≡ new ++ x ∷ [] → more ≡ done ++ g ∷ []
    → GivensFor w page (seen_set x ∷ []) (g ∷ []) → GivenSoFar w page all old done → GivenSoFar w page all new more
given_next w page all old new x done more g e m one h hs f =
    let now = given_both w page (seen_sets new) (seen_set x ∷ []) hs (g ∷ []) f one in
    let from : GivensFor w page (seen_sets old) (hs ++ g ∷ []) = subst (λ zs. GivensFor w page zs (hs ++ g ∷ [])) (sym (ap seen_sets e ∙ map-append seen_set new (x ∷ []))) now in
    subst (λ gs. GivensFor w page all gs) (append_assoc hs (g ∷ []) (reverse done) ∙ ap (λ gs. hs ++ gs) (sym (ap reverse m ∙ reverse-append done (g ∷ [])))) (h (hs ++ g ∷ []) from)

pub given_last : (w : World) (page : Page) (all : List s.Set) (waiting : List Set) (done : List Given) → waiting ≡ [] → GivenSoFar w page all waiting done → GivensFor w page all (reverse done)
given_last w page all waiting done e h = h [] (subst (λ xs. GivensFor w page (seen_sets xs) []) (sym e) tt)

-- what is left to give, of which the first one is the last, makes all of it
abbrev pub LaidSoFar : List Given → Vm → List Given → Vm → Type 0
LaidSoFar all old waiting vm = (new : Vm) → Does (λ n. touch_all (map touch_of (reverse waiting))) vm new → Does (λ n. touch_all (map touch_of (reverse all))) old new

pub laid_next : (all : List Given) (old vm mid : Vm) (waiting left : List Given) (g : Given) → waiting ≡ left ++ g ∷ [] → Does (λ n. touch g.cell.1 (label g.cell.1) (labelled (view g.value))) vm mid → LaidSoFar all old waiting vm → LaidSoFar all old left mid
laid_next all old vm mid waiting left g e d h new f =
    let one = λ (n : Tables). touch g.cell.1 (label g.cell.1) (labelled (view g.value)) in
    h new (subst (λ gs. Does (λ n. touch_all (map touch_of gs)) vm new) (sym (ap reverse e ∙ reverse-append left (g ∷ []))) (does_then one (λ n. touch_all (map touch_of (reverse left))) vm mid new d f))

pub laid_last : (all : List Given) (old vm : Vm) (waiting : List Given) → waiting ≡ [] → LaidSoFar all old waiting vm → Does (λ n. touch_all (map touch_of (reverse all))) old vm
laid_last all old vm waiting e h = h vm (subst (λ gs. Does (λ n. touch_all (map touch_of (reverse gs))) vm vm) (sym e) (λ n u ag. record { state = refl; agrees = ag }))
