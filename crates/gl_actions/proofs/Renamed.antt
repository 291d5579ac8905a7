-- Values with their owners by paths.
use Rattle.std.proofs.Common.{◌≡◌, ℕ, Bool, true, false, cond, List, [], ◌∷◌, ◌++◌, map, flat_map, refl, ap, ap₂, ◌∙◌, not, filter}
use Rattle.gl_base.specs.Texts.{Text}
use Rattle.gl_value.specs.Value.{Value, undefined, null, boolean, integer, text, list, pairs, action, Values, no_values, value, Members, no_members, member, truthy, text_of, plain, plain_values, plain_members, properties, is_missing, join_kept, join_values, list_of}
use Rattle.gl_value.specs.Helpers.{Helper, helper_value}
use Rattle.gl_value.specs.Owners.{with_owners, values_with, members_with}
use Rattle.gl_value.proofs.Owners.{rules_leave_owners, property_keeps_owners}
use Rattle.gl_labels.specs.Laws.{names_with}
use Rattle.gl_labels.proofs.Owners.{helpers_keep_owners}
use Rattle.gl_meaning.specs.Path.{path_eq}
use Rattle.gl_vm.specs.Labels.{owner_path}
use Rattle.gl_vm.proofs.Sets.{paths_decided, nums_decided, owners_once}
use Rattle.gl_actions.specs.World.{World, owner_in, value_in}
use Rattle.std.specs.Prelude.{nat_eq}

module _ {O P : Type 0} (f : O → P) where
  -- a plain form has no owners
  mutual
    pub plain-to : {Q : Type 0} (v : Value Q) → with_owners f (plain v) ≡ plain v
    plain-to undefined = refl
    plain-to null = refl
    plain-to (boolean b) = refl
    plain-to (integer i) = refl
    plain-to (text t) = refl
    plain-to (list vs) = ap list (plain_values-to vs)
    plain-to (pairs ms) = ap pairs (plain_members-to ms)
    plain-to (action o n vs) = refl

    plain_values-to : {Q : Type 0} (vs : Values Q) → values_with f (plain_values vs) ≡ plain_values vs
    plain_values-to no_values = refl
    plain_values-to (value v vs) = ap₂ value (plain-to v) (plain_values-to vs)

    plain_members-to : {Q : Type 0} (ms : Members Q) → members_with f (plain_members ms) ≡ plain_members ms
    plain_members-to no_members = refl
    plain_members-to (member k v ms) = ap₂ (member k) (plain-to v) (plain_members-to ms)

  properties-to : (ks : List Text) (v : Value O) → properties ks (with_owners f v) ≡ with_owners f (properties ks v)
  properties-to [] v = refl
  properties-to (k ∷ ks) v = ap (properties ks) (property_keeps_owners f k v) ∙ properties-to ks _

  missing-to : (v : Value O) → is_missing (with_owners f v) ≡ is_missing v
  missing-to undefined = refl
  missing-to null = refl
  missing-to (boolean b) = refl
  missing-to (integer i) = refl
  missing-to (text t) = refl
  missing-to (list vs) = refl
  missing-to (pairs ms) = refl
  missing-to (action o n vs) = refl

  kept-to : (vs : List (Value O)) → filter (λ v. not (is_missing v)) (map (with_owners f) vs) ≡ map (with_owners f) (filter (λ v. not (is_missing v)) vs)
  kept-to [] = refl
  kept-to (v ∷ vs) =
      ap (λ b. cond (not b) (with_owners f v ∷ filter (λ x. not (is_missing x)) (map (with_owners f) vs)) (filter (λ x. not (is_missing x)) (map (with_owners f) vs))) (missing-to v)
      ∙ by (not (is_missing v)) (kept-to vs) where
        by : (b : Bool) {xs : List (Value P)} → xs ≡ map (with_owners f) (filter (λ x. not (is_missing x)) vs)
            → cond b (with_owners f v ∷ xs) xs ≡ map (with_owners f) (cond b (v ∷ filter (λ x. not (is_missing x)) vs) (filter (λ x. not (is_missing x)) vs))
        by true e = ap (λ r. with_owners f v ∷ r) e
        by false e = e

  texts-to : (vs : List (Value O)) → flat_map text_of (map (with_owners f) vs) ≡ flat_map text_of vs
  texts-to [] = refl
  texts-to (v ∷ vs) = ap₂ (λ a b. a ++ b) (rules_leave_owners f v).1 (texts-to vs)

  join_kept-to : (vs : List (Value O)) → join_kept (map (with_owners f) vs) ≡ with_owners f (join_kept vs)
  join_kept-to [] = refl
  join_kept-to (v ∷ vs) = ap text (texts-to (v ∷ vs))

  join-to : (vs : List (Value O)) → join_values (map (with_owners f) vs) ≡ with_owners f (join_values vs)
  join-to vs = ap join_kept (kept-to vs) ∙ join_kept-to (filter (λ v. not (is_missing v)) vs)

  list-to : (vs : Values O) → list_of (values_with f vs) ≡ map (with_owners f) (list_of vs)
  list-to no_values = refl
  list-to (value v vs) = ap (λ r. with_owners f v ∷ r) (list-to vs)

  -- owners that are renamed twice
  module _ {Q : Type 0} (g : P → Q) where
    mutual
      both-to : (v : Value O) → with_owners g (with_owners f v) ≡ with_owners (λ o. g (f o)) v
      both-to undefined = refl
      both-to null = refl
      both-to (boolean b) = refl
      both-to (integer i) = refl
      both-to (text t) = refl
      both-to (list vs) = ap list (both_values-to vs)
      both-to (pairs ms) = ap pairs (both_members-to ms)
      both-to (action o n vs) = ap (action (g (f o)) n) (both_values-to vs)

      both_values-to : (vs : Values O) → values_with g (values_with f vs) ≡ values_with (λ o. g (f o)) vs
      both_values-to no_values = refl
      both_values-to (value v vs) = ap₂ value (both-to v) (both_values-to vs)

      both_members-to : (ms : Members O) → members_with g (members_with f ms) ≡ members_with (λ o. g (f o)) ms
      both_members-to no_members = refl
      both_members-to (member k v ms) = ap₂ (member k) (both-to v) (both_members-to ms)

-- In a world

module _ (w : World) where
  pub once_in : (o p : ℕ) → owner_in w o ≡ owner_in w p → o ≡ p
  once_in o p e = owners_once o p (w.once (owner_path o) (owner_path p) e)

  pub plain_in : {Q : Type 0} (v : Value Q) → value_in w (plain v) ≡ plain v
  plain_in v = plain-to (owner_in w) v

  pub along_in : (ks : List Text) (v : Value ℕ) → properties ks (value_in w v) ≡ value_in w (properties ks v)
  along_in ks v = properties-to (owner_in w) ks v

  pub joined_in : (vs : List (Value ℕ)) → join_values (map (value_in w) vs) ≡ value_in w (join_values vs)
  joined_in vs = join-to (owner_in w) vs

  pub truthy_in : (v : Value ℕ) → truthy (value_in w v) ≡ truthy v
  truthy_in v = (rules_leave_owners (owner_in w) v).0

  pub text_in : (v : Value ℕ) → text_of (value_in w v) ≡ text_of v
  text_in v = (rules_leave_owners (owner_in w) v).1

  pub listed_in : (vs : Values ℕ) → list_of (values_with (owner_in w) vs) ≡ map (value_in w) (list_of vs)
  listed_in vs = list-to (owner_in w) vs

  pub labelled_in : (v : Value ℕ) → with_owners w.names (with_owners owner_path v) ≡ value_in w v
  labelled_in v = both-to owner_path w.names v

  pub helper_in : (h : Helper) (vs : List (Value ℕ)) (ns : List (Text × Value ℕ)) → helper_value path_eq (map (value_in w) vs) (names_with (owner_in w) ns) h ≡ value_in w (helper_value nat_eq vs ns h)
  helper_in h vs ns = helpers_keep_owners nat_eq path_eq nums_decided paths_decided (owner_in w) once_in h vs ns
