-- The names of a manifest that is read rise.
use Rattle.std.proofs.Common.{◌≡◌, inl, inr, List, [], ◌∷◌, ℕ, map, true, false, Some, Ok, Err, refl, sym, ap, ◌∙◌, subst}
use Rattle.std.specs.Prelude.{⊤, ◌&&◌, not, codes, IsTrue}
use Rattle.std.specs.Ordering.{nat_cmp, is_lt}
use Rattle.std.specs.Cmp.Lexicographic.{slice_cmp}
use Rattle.std.specs.declared.cmp.Ordering.TheVariants.{Less}
use Rattle.std.proofs.lemmas.Cmp.{nat_list_cmp_total, tied_itself}
use Rattle.serde_json.specs.Data as json
use Rattle.serde_json.specs.Find.{get_member}
use Rattle.gl_base.specs.Texts.{Text, bytes_of, text_less}
use Rattle.gl_ast.specs.Template.{Plain, Expr}
use Rattle.gl_ast.proofs.Forward.{both}
use Rattle.gl_meaning.specs.App.{Action}
use Rattle.gl_meaning.specs.JsonText.{members_at, has_inner}
use Rattle.gl_meaning.specs.Known.{Among}
use Rattle.gl_meaning.specs.Laws.{NoRepeat}
use Rattle.gl_meaning.specs.Manifest.{Manifest, ClassEntry}
use Rattle.gl_meaning.specs.ManifestIs.{MembersAre, IsAction, IsField, IsGetter, IsClass, IsManifest}
use Rattle.gl_meaning.specs.ManifestLimits as most
use Rattle.gl_meaning.specs.ManifestOf.{read_manifest, said}
use Rattle.gl_meaning.specs.ManifestRules.{Each}
use Rattle.gl_meaning.specs.ManifestShape.{action_check, field_check, getter_check, class_member, class_check, manifest_member, manifest_check}
use Rattle.gl_meaning.specs.NameTests.{is_free_name, is_class_name}
use Rattle.gl_meaning.specs.Walk.{Found, check_members}
use Rattle.gl_meaning.proofs.Forms.{under_sound, if_sound, passed, object_passed, members_passed}
use Rattle.gl_parse.specs.ReadStmt.{expression_of}
use Rattle.gl_ast.specs.Grammar.{SpellsExpr}
use Rattle.gl_manifest.specs.Holds.{Holds}
use Rattle.gl_meaning.specs.Order.{Rise, ClassRises, NamesRise}
use Rattle.gl_manifest.proofs.Holding.{said_holds}
use Rattle.gl_manifest.proofs.Keys.{IsFirst, IsOrdered, KeysRise, json_ordered, member_ordered, members_in_rise}
use Rattle.gl_manifest.proofs.Names.{free_bytes, class_bytes}

-- Texts that rise differ

not_less_than_itself : (t : Text) → text_less t t ≡ false
not_less_than_itself t = ap is_lt (tied_itself nat_list_cmp_total (bytes_of t))

less_differs : (t u : Text) → IsTrue (text_less t u) → t ≡ u → ⊥
less_differs t u less same =
    let P : Text → Type 0 = λ v. text_less t v ≡ true in
    let itself : text_less t t ≡ true = subst P (sym same) less in
    let not_so : text_less t t ≡ false = not_less_than_itself t in
    cc

less_than_all : (t : Text) (ts : List Text) → Each (λ u. IsTrue (text_less t u)) ts → Among t ts → ⊥
less_than_all t [] less among = among
less_than_all t (u ∷ ts) less (inl same) = less_differs t u less.0 same
less_than_all t (u ∷ ts) less (inr among) = less_than_all t ts less.1 among

pub rise_differ : (ts : List Text) → Rise ts → NoRepeat ts
rise_differ [] r = tt
rise_differ (t ∷ ts) r = (less_than_all t ts r.0, rise_differ ts r.1)

-- Names of members

-- it is the name for a key that has passed its rule
abbrev pub Names : {A : Type 0} → (List ℕ → json.Data → Found ⊤) → (List ℕ → json.Data → A → Type 0) → (A → Text) → Type 0
Names {A} rule R name = (k : List ℕ) (d : json.Data) (x : A) → rule k d ≡ Ok tt → R k d x → bytes_of (name x) ≡ k

less_texts : (t u : Text) (k l : List ℕ) → bytes_of t ≡ k → bytes_of u ≡ l → slice_cmp nat_cmp k l ≡ Less → IsTrue (text_less t u)
less_texts t u k l e g h = rw (e, g, h) refl

first_name : {A : Type 0} (rule : List ℕ → json.Data → Found ⊤) (R : List ℕ → json.Data → A → Type 0) (name : A → Text) → Names rule R name → (t : Text) (k : List ℕ) → bytes_of t ≡ k → (ms : json.Members) (xs : List A) → IsFirst k ms → check_members rule ms ≡ Ok tt → MembersAre R ms xs → Each (λ u. IsTrue (text_less t u)) (map name xs)
first_name rule R name names t k is json.no_members [] first sound are = tt
first_name rule R name names t k is json.no_members (x ∷ xs) first sound are = absurd are
first_name rule R name names t k is (json.member l d ms) [] first sound are = absurd are
first_name rule R name names t k is (json.member l d ms) (x ∷ xs) first sound are =
    let s = under_sound _ (rule l d) (check_members rule ms) sound in
    (less_texts t (name x) k l is (names l d x s.0 are.0) first.0, first_name rule R name names t k is ms xs first.1 s.1 are.1)

names_rise : {A : Type 0} (rule : List ℕ → json.Data → Found ⊤) (R : List ℕ → json.Data → A → Type 0) (name : A → Text) → Names rule R name → (ms : json.Members) (xs : List A) → KeysRise ms → check_members rule ms ≡ Ok tt → MembersAre R ms xs → Rise (map name xs)
names_rise rule R name names json.no_members [] rise sound are = tt
names_rise rule R name names json.no_members (x ∷ xs) rise sound are = absurd are
names_rise rule R name names (json.member k d ms) [] rise sound are = absurd are
names_rise rule R name names (json.member k d ms) (x ∷ xs) rise sound are =
    let s = under_sound _ (rule k d) (check_members rule ms) sound in
    (first_name rule R name names (name x) k (names k d x s.0 are.0) ms xs rise.0 s.1 are.1, names_rise rule R name names ms xs rise.2 s.1 are.1)

-- what holds of each member that is of the form and in order
each_is : {A : Type 0} (rule : List ℕ → json.Data → Found ⊤) (R : List ℕ → json.Data → A → Type 0) (P : A → Type 0) → ((k : List ℕ) (d : json.Data) (x : A) → IsOrdered d → rule k d ≡ Ok tt → R k d x → P x) → (ms : json.Members) (xs : List A) → KeysRise ms → check_members rule ms ≡ Ok tt → MembersAre R ms xs → Each P xs
each_is rule R P gives json.no_members [] rise sound are = tt
each_is rule R P gives json.no_members (x ∷ xs) rise sound are = absurd are
each_is rule R P gives (json.member k d ms) [] rise sound are = absurd are
each_is rule R P gives (json.member k d ms) (x ∷ xs) rise sound are =
    let s = under_sound _ (rule k d) (check_members rule ms) sound in
    (gives k d x rise.1 s.0 are.0, each_is rule R P gives ms xs rise.2 s.1 are.1)

-- The manifest's

pub action_name : (k : List ℕ) (d : json.Data) (x : Text × Action) → action_check k d ≡ Ok tt → IsAction SpellsExpr k d x → bytes_of x.0 ≡ k
unfolding action_check
action_name k d x sound is = ap bytes_of is.name ∙ free_bytes k (if_sound (is_free_name k) _ sound).0

pub field_name : (class : json.Data) (k : List ℕ) (d : json.Data) (f : Text × Plain) → field_check class k d ≡ Ok tt → IsField k d f → bytes_of f.0 ≡ k
unfolding field_check
field_name class k d f sound is =
    let named = if_sound (is_free_name k && not (has_inner (codes "actions") k class)) _ sound in
    ap bytes_of is.0 ∙ free_bytes k (both (is_free_name k) _ named.0).0

pub getter_name : (class : json.Data) (k : List ℕ) (d : json.Data) (g : Text × Expr) → getter_check class k d ≡ Ok tt → IsGetter SpellsExpr k d g → bytes_of g.0 ≡ k
unfolding getter_check
getter_name class k d g sound is =
    let named = if_sound (is_free_name k && not (has_inner (codes "actions") k class) && not (has_inner (codes "fields") k class)) _ sound in
    let both_first = both (is_free_name k && not (has_inner (codes "actions") k class)) _ named.0 in
    ap bytes_of is.0 ∙ free_bytes k (both (is_free_name k) _ both_first.0).0

class_name : (k : List ℕ) (d : json.Data) (c : ClassEntry) → class_check k d ≡ Ok tt → IsClass SpellsExpr k d c → bytes_of c.name ≡ k
unfolding class_check
class_name k d c sound is = ap bytes_of is.name ∙ class_bytes k (if_sound (is_class_name k) _ sound).0

class_members_rise : (ms : json.Members) (k : List ℕ) (c : ClassEntry) → KeysRise ms → check_members (class_member (json.object ms)) ms ≡ Ok tt → IsClass SpellsExpr k (json.object ms) c → ClassRises c
unfolding class_member
class_members_rise ms k c rise sound is =
    let there = λ (key : List ℕ) (a : json.Data) (h : get_member key ms ≡ Some a). passed (class_member (json.object ms)) key a ms sound h in
    let ordered = λ (key : List ℕ). members_in_rise (get_member key ms) (member_ordered key ms rise) in
    let fields = members_passed most.fields (field_check (json.object ms)) (get_member (codes "fields") ms) (there (codes "fields")) in
    let getters = members_passed most.getters (getter_check (json.object ms)) (get_member (codes "getters") ms) (there (codes "getters")) in
    let actions = members_passed most.actions action_check (get_member (codes "actions") ms) (there (codes "actions")) in
    record {
      fields = names_rise (field_check (json.object ms)) IsField (λ f. f.0) (field_name (json.object ms)) (members_at (codes "fields") (json.object ms)) c.fields (ordered (codes "fields")) fields.1 is.fields;
      getters = names_rise (getter_check (json.object ms)) (IsGetter SpellsExpr) (λ g. g.0) (getter_name (json.object ms)) (members_at (codes "getters") (json.object ms)) c.getters (ordered (codes "getters")) getters.1 is.getters;
      actions = names_rise action_check (IsAction SpellsExpr) (λ x. x.0) action_name (members_at (codes "actions") (json.object ms)) c.actions (ordered (codes "actions")) actions.1 is.actions;
    }

class_rises : (k : List ℕ) (d : json.Data) (c : ClassEntry) → IsOrdered d → class_check k d ≡ Ok tt → IsClass SpellsExpr k d c → ClassRises c
unfolding class_check
class_rises k d c ordered sound is =
    let named = if_sound (is_class_name k) _ sound in
    let o = object_passed _ (class_member d) d named.1 in
    let P : json.Data → Type 0 = λ x. check_members (class_member x) o.0 ≡ Ok tt in
    class_members_rise o.0 k c (rw o.1 at ordered) (subst P o.1 o.3) (rw o.1 at is)

manifest_members_rise : (ms : json.Members) (m : Manifest) → KeysRise ms → check_members manifest_member ms ≡ Ok tt → IsManifest SpellsExpr (json.object ms) m → NamesRise m
unfolding manifest_member
manifest_members_rise ms m rise sound is =
    let classes = members_passed most.classes class_check (get_member (codes "classes") ms) (λ a h. passed manifest_member (codes "classes") a ms sound h) in
    let ordered = members_in_rise (get_member (codes "classes") ms) (member_ordered (codes "classes") ms rise) in
    record {
      classes = names_rise class_check (IsClass SpellsExpr) (λ c. c.name) class_name (members_at (codes "classes") (json.object ms)) m.classes ordered classes.1 is.classes;
      each = each_is class_check (IsClass SpellsExpr) ClassRises class_rises (members_at (codes "classes") (json.object ms)) m.classes ordered classes.1 is.classes;
    }

holds_rises : (bytes : List ℕ) (m : Manifest) → Holds bytes m → NamesRise m
unfolding manifest_check
holds_rises bytes m h =
    let o = object_passed _ manifest_member h.0 h.2 in
    manifest_members_rise o.0 m (rw o.1 at (json_ordered bytes h.0 h.1)) o.3 (rw o.1 at h.3)

-- the names of the manifest of any bytes rise
pub read_rises : (bytes : List ℕ) (m : Manifest) → read_manifest expression_of bytes ≡ said m → NamesRise m
read_rises bytes m e = holds_rises bytes m (said_holds bytes m e)
