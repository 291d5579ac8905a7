-- A manifest that is read keeps its rules.
use Rattle.std.proofs.Common.{◌≡◌, ℕ, List, [], ◌∷◌, length, true, false, Option, Some, None, Ok, Err, refl, sym, ap, ◌∙◌, subst}
use Rattle.std.specs.Prelude.{⊤, ◌==◌, not, codes, is_some, Result, IfOk}
use Rattle.std.specs.Str.{chars, IsUtf8}
use Rattle.serde_json.specs.Data as json
use Rattle.serde_json.specs.Find.{get, get_member}
use Rattle.gl_base.specs.Texts.{Text}
use Rattle.gl_base.proofs.Chars.{chars_empty}
use Rattle.gl_meaning.specs.App.{Action}
use Rattle.gl_meaning.specs.JsonText.{members_at, has_key, text_in, text_at}
use Rattle.gl_meaning.specs.Laws.{NoRepeat}
use Rattle.gl_meaning.specs.Manifest.{Manifest, ClassEntry}
use Rattle.gl_meaning.specs.ManifestIs.{MembersAre, IsAction, IsField, IsGetter, IsClass, IsManifest}
use Rattle.gl_meaning.specs.ManifestLimits as most
use Rattle.gl_meaning.specs.ManifestNames.{ClassNames, ModifierName, KeepsRules}
use Rattle.gl_meaning.specs.ManifestOf.{read_manifest, said}
use Rattle.gl_meaning.specs.ManifestRules.{Each, KeepsLimits}
use Rattle.gl_meaning.specs.ManifestShape.{action_member, action_check, field_check, getter_check, file_check, class_member, class_check, manifest_member, manifest_check}
use Rattle.gl_meaning.specs.NameTests.{is_free_name, is_class_name}
use Rattle.gl_meaning.specs.View.{manifest_view}
use Rattle.gl_meaning.specs.Walk.{Found, check_members}
use Rattle.gl_meaning.specs.declared.manifest.Manifest as code
use Rattle.gl_meaning.proofs.Forms.{under_sound, if_sound, passed, object_passed, members_passed}
use Rattle.gl_meaning.proofs.Limits.{read_keeps}
use Rattle.gl_parse.specs.ReadStmt.{expression_of}
use Rattle.gl_ast.specs.Grammar.{SpellsExpr}
use Rattle.gl_manifest.specs.Holds.{Holds}
use Rattle.gl_manifest.specs.View.{Reads}
use Rattle.gl_manifest.specs.declared.fault.ManifestFault.{ManifestFault}
use Rattle.gl_manifest.proofs.Holding.{said_holds}
use Rattle.gl_manifest.proofs.JsonTexts.{IsTextData, HaveTextData, json_text, text_at_text, members_at_text}
use Rattle.gl_manifest.proofs.ModifiersNamed.{modifiers_named}
use Rattle.gl_manifest.proofs.NamesApart.{field_apart, getter_apart, apart}
use Rattle.gl_manifest.proofs.Order.{field_name, getter_name, action_name, read_rises}
use Rattle.gl_manifest.proofs.ParamsDiffer.{params_differ}

-- what holds of each member that is text and has passed
each_is : {A : Type 0} (rule : List ℕ → json.Data → Found ⊤) (R : List ℕ → json.Data → A → Type 0) (P : A → Type 0) → ((k : List ℕ) (d : json.Data) (x : A) → IsTextData d → rule k d ≡ Ok tt → R k d x → P x) → (ms : json.Members) (xs : List A) → HaveTextData ms → check_members rule ms ≡ Ok tt → MembersAre R ms xs → Each P xs
each_is rule R P gives json.no_members [] text sound are = tt
each_is rule R P gives json.no_members (x ∷ xs) text sound are = absurd are
each_is rule R P gives (json.member k d ms) [] text sound are = absurd are
each_is rule R P gives (json.member k d ms) (x ∷ xs) text sound are =
    let s = under_sound _ (rule k d) (check_members rule ms) sound in
    (gives k d x text.0 s.0 are.0, each_is rule R P gives ms xs text.1 s.1 are.1)

action_params : (ms : json.Members) (k : List ℕ) (x : Text × Action) → check_members action_member ms ≡ Ok tt → IsAction SpellsExpr k (json.object ms) x → NoRepeat x.1.params
unfolding action_member
action_params ms k x sound is =
    params_differ (get_member (codes "params") ms) x.1.params (λ a h. passed action_member (codes "params") a ms sound h) is.params

action_keeps : (k : List ℕ) (d : json.Data) (x : Text × Action) → IsTextData d → action_check k d ≡ Ok tt → IsAction SpellsExpr k d x → NoRepeat x.1.params
unfolding action_check
action_keeps k d x text sound is =
    let named = if_sound (is_free_name k) _ sound in
    let o = object_passed _ action_member d named.1 in
    action_params o.0 k x o.3 (rw o.1 at is)

-- the name of a file that is given is not empty
file_named : (o : Option json.Data) → is_some o ≡ true → ((d : json.Data) → o ≡ Some d → file_check d ≡ Ok tt) → IsUtf8 (text_in o) → chars (text_in o) ≡ [] → ⊥
file_named None there passed text empty = let r : ⊥ = cc in r
file_named (Some (json.string s)) there passed text empty =
    let none : length s ≡ 0 = chars_empty s text empty in
    let sound : not (length s == 0) ≡ true = (if_sound (not (length s == 0)) _ (passed (json.string s) refl)).0 in
    let not_so : not (length s == 0) ≡ false = rw none refl in
    cc
file_named (Some json.null) there passed text empty = let e = passed json.null refl in let r : ⊥ = cc in r
file_named (Some (json.boolean b)) there passed text empty = let e = passed (json.boolean b) refl in let r : ⊥ = cc in r
file_named (Some (json.number n)) there passed text empty = let e = passed (json.number n) refl in let r : ⊥ = cc in r
file_named (Some (json.array ds)) there passed text empty = let e = passed (json.array ds) refl in let r : ⊥ = cc in r
file_named (Some (json.object ms)) there passed text empty = let e = passed (json.object ms) refl in let r : ⊥ = cc in r

class_names : (ms : json.Members) (k : List ℕ) (c : ClassEntry) → HaveTextData ms → has_key (codes "template") (json.object ms) ≡ true → check_members (class_member (json.object ms)) ms ≡ Ok tt → IsClass SpellsExpr k (json.object ms) c → ClassNames c
unfolding class_member
class_names ms k c text has sound is =
    let class : json.Data = json.object ms in
    let there = λ (key : List ℕ) (a : json.Data) (h : get_member key ms ≡ Some a). passed (class_member (json.object ms)) key a ms sound h in
    let fields = members_passed most.fields (field_check (json.object ms)) (get_member (codes "fields") ms) (there (codes "fields")) in
    let getters = members_passed most.getters (getter_check (json.object ms)) (get_member (codes "getters") ms) (there (codes "getters")) in
    let actions = members_passed most.actions action_check (get_member (codes "actions") ms) (there (codes "actions")) in
    record {
      fields = apart (codes "actions") (json.object ms) (field_check (json.object ms)) IsField (λ f. f.0) (field_name (json.object ms)) (field_apart (json.object ms)) action_check (IsAction SpellsExpr) (λ x. x.0) action_name (members_at (codes "fields") (json.object ms)) c.fields fields.1 is.fields c.actions actions.1 is.actions;
      getters = apart (codes "actions") (json.object ms) (getter_check (json.object ms)) (IsGetter SpellsExpr) (λ g. g.0) (getter_name (json.object ms)) (λ key d h. (getter_apart (json.object ms) key d h).0) action_check (IsAction SpellsExpr) (λ x. x.0) action_name (members_at (codes "getters") (json.object ms)) c.getters getters.1 is.getters c.actions actions.1 is.actions;
      computed = apart (codes "fields") (json.object ms) (getter_check (json.object ms)) (IsGetter SpellsExpr) (λ g. g.0) (getter_name (json.object ms)) (λ key d h. (getter_apart (json.object ms) key d h).1) (field_check (json.object ms)) IsField (λ f. f.0) (field_name (json.object ms)) (members_at (codes "getters") (json.object ms)) c.getters getters.1 is.getters c.fields fields.1 is.fields;
      params = each_is action_check (IsAction SpellsExpr) (λ x. NoRepeat x.1.params) action_keeps (members_at (codes "actions") (json.object ms)) c.actions (members_at_text (codes "actions") (json.object ms) text) actions.1 is.actions;
      file = λ empty. file_named (get_member (codes "template") ms) has (there (codes "template")) (text_at_text (codes "template") (json.object ms) text) (sym is.file ∙ empty);
    }

class_keeps : (k : List ℕ) (d : json.Data) (c : ClassEntry) → IsTextData d → class_check k d ≡ Ok tt → IsClass SpellsExpr k d c → ClassNames c
unfolding class_check
class_keeps k d c text sound is =
    let named = if_sound (is_class_name k) _ sound in
    let o = object_passed _ (class_member d) d named.1 in
    let P : json.Data → Type 0 = λ x. check_members (class_member x) o.0 ≡ Ok tt in
    let H : json.Data → Type 0 = λ x. has_key (codes "template") x ≡ true in
    class_names o.0 k c (rw o.1 at text) (subst H o.1 o.2) (subst P o.1 o.3) (rw o.1 at is)

classes_keep : (ms : json.Members) (m : Manifest) → HaveTextData ms → check_members manifest_member ms ≡ Ok tt → IsManifest SpellsExpr (json.object ms) m → Each ClassNames m.classes
unfolding manifest_member
classes_keep ms m text sound is =
    let classes = members_passed most.classes class_check (get_member (codes "classes") ms) (λ a h. passed manifest_member (codes "classes") a ms sound h) in
    each_is class_check (IsClass SpellsExpr) ClassNames class_keeps (members_at (codes "classes") (json.object ms)) m.classes (members_at_text (codes "classes") (json.object ms) text) classes.1 is.classes

modifiers_keep : (ms : json.Members) (m : Manifest) → check_members manifest_member ms ≡ Ok tt → IsManifest SpellsExpr (json.object ms) m → Each ModifierName m.modifiers
unfolding manifest_member
modifiers_keep ms m sound is =
    modifiers_named (get_member (codes "modifiers") ms) m.modifiers (λ d h. passed manifest_member (codes "modifiers") d ms sound h) is.modifiers

holds_modifiers : (bytes : List ℕ) (m : Manifest) → Holds bytes m → Each ModifierName m.modifiers
unfolding manifest_check
holds_modifiers bytes m h =
    let o = object_passed _ manifest_member h.0 h.2 in
    modifiers_keep o.0 m o.3 (rw o.1 at h.3)

holds_names : (bytes : List ℕ) (m : Manifest) → Holds bytes m → Each ClassNames m.classes
unfolding manifest_check
holds_names bytes m h =
    let o = object_passed _ manifest_member h.0 h.2 in
    classes_keep o.0 m (rw o.1 at (json_text bytes h.0 h.1)) o.3 (rw o.1 at h.3)

-- the manifest of any bytes keeps its rules
pub read_rules : (bytes : List ℕ) (m : Manifest) → read_manifest expression_of bytes ≡ said m → KeepsRules m
read_rules bytes m e = record {
  limits = read_keeps expression_of bytes m e;
  order = read_rises bytes m e;
  names = holds_names bytes m (said_holds bytes m e);
  modifiers = holds_modifiers bytes m (said_holds bytes m e);
}

pub keeps_rules : (bytes : List ℕ) (r : Result code.Manifest ManifestFault) → Reads r (read_manifest expression_of bytes) → IfOk r (λ m. KeepsRules (manifest_view m))
keeps_rules bytes (Ok m) h = read_rules bytes (manifest_view m) h
keeps_rules bytes (Err e) h = tt

pub keeps_limits : (bytes : List ℕ) (r : Result code.Manifest ManifestFault) → Reads r (read_manifest expression_of bytes) → IfOk r (λ m. KeepsLimits (manifest_view m))
keeps_limits bytes (Ok m) h = read_keeps expression_of bytes (manifest_view m) h
keeps_limits bytes (Err e) h = tt
