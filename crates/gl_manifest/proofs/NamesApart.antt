-- In a manifest that is read the members of a class have different names.
use Rattle.std.proofs.Common.{◌≡◌, inl, inr, List, [], ◌∷◌, ℕ, map, Bool, true, false, Option, Some, None, Ok, refl, sym, ap, ◌∙◌, subst}
use Rattle.std.specs.Prelude.{⊤, ◌&&◌, not, codes, is_some, option_and_then}
use Rattle.std.specs.Ordering.{nat_cmp, match_ordering}
use Rattle.std.specs.Cmp.Lexicographic.{slice_cmp}
use Rattle.std.specs.declared.cmp.Ordering.{Ordering}
use Rattle.std.specs.declared.cmp.Ordering.TheVariants.{Less, Equal, Greater}
use Rattle.std.proofs.lemmas.Cmp.{nat_list_cmp_total, tied_itself}
use Rattle.serde_json.specs.Data as json
use Rattle.serde_json.specs.Find.{get, get_member}
use Rattle.gl_base.specs.Texts.{Text, bytes_of}
use Rattle.gl_ast.proofs.Forward.{both}
use Rattle.gl_meaning.specs.JsonText.{members_in, has_inner}
use Rattle.gl_meaning.specs.Known.{Among}
use Rattle.gl_meaning.specs.ManifestIs.{MembersAre}
use Rattle.gl_meaning.specs.ManifestNames.{Apart}
use Rattle.gl_meaning.specs.ManifestShape.{field_check, getter_check}
use Rattle.gl_meaning.specs.NameTests.{is_free_name}
use Rattle.gl_meaning.specs.Walk.{Found, check_members}
use Rattle.gl_meaning.proofs.Forms.{under_sound, if_sound}
use Rattle.gl_manifest.proofs.Order.{Names}

-- What is named is there

there_by : (o : Ordering) (k : List ℕ) (e : json.Data) (ms : json.Members) → is_some (get_member k ms) ≡ true → is_some (match_ordering o (get_member k ms) (Some e) (get_member k ms)) ≡ true
there_by Less k e ms there = there
there_by Equal k e ms there = refl
there_by Greater k e ms there = there

here_by : (k : List ℕ) (e : json.Data) (ms : json.Members) → is_some (get_member k (json.member k e ms)) ≡ true
here_by k e ms = rw (tied_itself nat_list_cmp_total k) refl

-- the key of a name is among the members
pub named_there : {A : Type 0} (rule : List ℕ → json.Data → Found ⊤) (R : List ℕ → json.Data → A → Type 0) (name : A → Text) → Names rule R name → (n : Text) (ms : json.Members) (xs : List A) → check_members rule ms ≡ Ok tt → MembersAre R ms xs → Among n (map name xs) → is_some (get_member (bytes_of n) ms) ≡ true
named_there rule R name names n json.no_members [] sound are among = absurd among
named_there rule R name names n json.no_members (x ∷ xs) sound are among = absurd are
named_there rule R name names n (json.member k d ms) [] sound are among = absurd are
named_there rule R name names n (json.member k d ms) (x ∷ xs) sound are (inl same) =
    let s = under_sound _ (rule k d) (check_members rule ms) sound in
    let is : bytes_of n ≡ k = ap bytes_of same ∙ names k d x s.0 are.0 in
    subst (λ x. is_some (get_member x (json.member k d ms)) ≡ true) (sym is) (here_by k d ms)
named_there rule R name names n (json.member k d ms) (x ∷ xs) sound are (inr among) =
    let s = under_sound _ (rule k d) (check_members rule ms) sound in
    there_by (slice_cmp nat_cmp (bytes_of n) k) (bytes_of n) d ms (named_there rule R name names n ms xs s.1 are.1 among)

-- what the rule says of a key holds of each name
pub named_keeps : {A : Type 0} (rule : List ℕ → json.Data → Found ⊤) (R : List ℕ → json.Data → A → Type 0) (name : A → Text) → Names rule R name → (P : List ℕ → Type 0) → ((k : List ℕ) (d : json.Data) → rule k d ≡ Ok tt → P k) → (n : Text) (ms : json.Members) (xs : List A) → check_members rule ms ≡ Ok tt → MembersAre R ms xs → Among n (map name xs) → P (bytes_of n)
named_keeps rule R name names P says n json.no_members [] sound are among = absurd among
named_keeps rule R name names P says n json.no_members (x ∷ xs) sound are among = absurd are
named_keeps rule R name names P says n (json.member k d ms) [] sound are among = absurd are
named_keeps rule R name names P says n (json.member k d ms) (x ∷ xs) sound are (inl same) =
    let s = under_sound _ (rule k d) (check_members rule ms) sound in
    let is : bytes_of n ≡ k = ap bytes_of same ∙ names k d x s.0 are.0 in
    subst P (sym is) (says k d s.0)
named_keeps rule R name names P says n (json.member k d ms) (x ∷ xs) sound are (inr among) =
    let s = under_sound _ (rule k d) (check_members rule ms) sound in
    named_keeps rule R name names P says n ms xs s.1 are.1 among

-- what is among the members at a key of an object is among the inner ones
inner_there : (k : List ℕ) (o : Option json.Data) → is_some (get_member k (members_in o)) ≡ true → is_some (option_and_then (get k) o) ≡ true
inner_there k None there = there
inner_there k (Some (json.object ms)) there = there
inner_there k (Some json.null) there = there
inner_there k (Some (json.boolean b)) there = there
inner_there k (Some (json.number n)) there = there
inner_there k (Some (json.string s)) there = there
inner_there k (Some (json.array ds)) there = there

-- What the rules of members say

not_is : (b : Bool) → not b ≡ true → b ≡ false
not_is true e = sym e
not_is false e = refl

pub field_apart : (class : json.Data) (k : List ℕ) (d : json.Data) → field_check class k d ≡ Ok tt → has_inner (codes "actions") k class ≡ false
unfolding field_check
field_apart class k d sound =
    let named = if_sound (is_free_name k && not (has_inner (codes "actions") k class)) _ sound in
    not_is (has_inner (codes "actions") k class) (both (is_free_name k) _ named.0).1

pub getter_apart : (class : json.Data) (k : List ℕ) (d : json.Data) → getter_check class k d ≡ Ok tt → (has_inner (codes "actions") k class ≡ false) × (has_inner (codes "fields") k class ≡ false)
unfolding getter_check
getter_apart class k d sound =
    let named = if_sound (is_free_name k && not (has_inner (codes "actions") k class) && not (has_inner (codes "fields") k class)) _ sound in
    let parts = both (is_free_name k && not (has_inner (codes "actions") k class)) _ named.0 in
    (not_is (has_inner (codes "actions") k class) (both (is_free_name k) _ parts.0).1, not_is (has_inner (codes "fields") k class) parts.1)

-- names of which the rule says that they are not those of other members stand apart from these
pub apart : {A B : Type 0} (outer : List ℕ) (class : json.Data)
    (rule : List ℕ → json.Data → Found ⊤) (R : List ℕ → json.Data → A → Type 0) (name : A → Text) → Names rule R name
    → ((k : List ℕ) (d : json.Data) → rule k d ≡ Ok tt → has_inner outer k class ≡ false)
    → (others : List ℕ → json.Data → Found ⊤) (S : List ℕ → json.Data → B → Type 0) (other : B → Text) → Names others S other
    → (ms : json.Members) (xs : List A) → check_members rule ms ≡ Ok tt → MembersAre R ms xs
    → (ys : List B) → check_members others (members_in (get outer class)) ≡ Ok tt → MembersAre S (members_in (get outer class)) ys
    → Apart (map name xs) (map other ys)
apart outer class rule R name names says others S other the_others ms xs sound are ys others_sound others_are = λ n among among_others.
    let not_there = named_keeps rule R name names (λ k. has_inner outer k class ≡ false) says n ms xs sound are among in
    let there = inner_there (bytes_of n) (get outer class) (named_there others S other the_others n (members_in (get outer class)) ys others_sound others_are among_others) in
    let r : ⊥ = cc in r
