-- What is set is a page's own.
use Rattle.std.proofs.Common.{◌≡◌, ◌<◌, ℕ, List, [], ◌∷◌, ◌++◌, length, Some, sym, ap, ◌∙◌, subst}
use Rattle.std.specs.Str.{bytes_eq}
use Rattle.std.specs.List.{position}
use Rattle.std.proofs.lemmas.List.{length-map}
use Rattle.std.proofs.lemmas.List.Quantifiers.{position-Some}
use Rattle.gl_base.specs.Texts.{Text}
use Rattle.gl_value.specs.Value.{Value, plain}
use Rattle.gl_value.specs.View.{seen_entry, seen_entries}
use Rattle.gl_value.specs.declared.value.Value.{Value as CodeValue}
use Rattle.gl_value.specs.Plain.{plain_pair}
use Rattle.gl_meaning.specs.View.{class_view}
use Rattle.gl_opc.specs.declared.app.App.{App}
use Rattle.gl_code.specs.View.{seen_owner}
use Rattle.gl_code.specs.declared.page.Page.{Page}
use Rattle.gl_vm.specs.View.{name_stamps}
use Rattle.gl_actions.specs.Sets.{Set}
use Rattle.gl_actions.specs.Own.{names_in, IsOnPage, IsOwnSet, AreOwnSets, AddsOwn}
use Rattle.gl_actions.specs.declared.frame.Frame.{Frame}

-- one more at the end
more_own : (a : App) (page : Page) (xs : List Set) (x : Set) → IsOwnSet a page x → AddsOwn a page xs (xs ++ x ∷ [])
more_own a page [] x own = λ u. (own, tt)
more_own a page (y ∷ ys) x own = λ u. (u.0, more_own a page ys x own u.1)

pub set_own : (a : App) (page : Page) (f : Frame) → IsOnPage a page f → (old new : List Set) (q : ℕ) (y z : Value ℕ) → q < length (class_view f.class.now).fields → y ≡ plain z
    → new ≡ old ++ record { owner = f.owner.now.id; field = q; to = y } ∷ [] → AddsOwn a page old new
set_own a page f on old new q y z lt e is = λ u.
    subst (AreOwnSets a page) (sym is)
    (more_own a page old (record { owner = f.owner.now.id; field = q; to = y })
    (record { inst = seen_owner (names_in a) f.owner.now; args = name_stamps f.args.now; stands = on.stands; class = class_view f.class.now; is = on.class; field = lt; given = z; plainly = e }) u)

-- A field that is found has a place of its class.
pub place_below : (f : Frame) (fs : List (Text × CodeValue)) → seen_entries fs ≡ f.class.now.fields → (x : Text) (q : ℕ) → position (λ e. bytes_eq x e.0) fs ≡ Some q → q < length (class_view f.class.now).fields
place_below f fs these x q is =
    let d : Text × CodeValue = ([], Rattle.gl_value.specs.declared.value.Value.TheVariants.Undefined) in
    let h = position-Some (λ (e : Text × CodeValue). bytes_eq x e.0) fs q d is in
    subst (λ n. q < n) (sym (length-map fs seen_entry) ∙ (ap length these ∙ sym (length-map f.class.now.fields (λ e. let p : Text × Value ⊥ = plain_pair e in p)))) h.0
