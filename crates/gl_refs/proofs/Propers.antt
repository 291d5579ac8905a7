-- References over proper values mean proper values.
use Rattle.std.proofs.Common.{◌≡◌, ℕ, zero, suc, List, [], ◌∷◌, map, filter, Bool, true, false, cond, ltb, ltb-false, Option, Some, None, refl, inl, inr, arith}
use Rattle.std.specs.Prelude.{nat_eq, nat_lt, not, eqb, ◌&&◌, option_map, unwrap_or, slice_get}
use Rattle.std.specs.declared.cmp.Ordering.{Ordering}
use Rattle.std.specs.declared.cmp.Ordering.TheVariants.{Less, Equal, Greater}
use Rattle.gl_base.specs.Texts.{Text, bytes_of}
use Rattle.gl_arena.specs.Id.{Id}
use Rattle.gl_value.specs.Value.{undefined, is_missing, depth, pairs, Members, no_members, pairs_of, pair_list, values_of, text_of, join_kept}
use Rattle.gl_value.specs.Helpers as helper
use Rattle.gl_value.specs.Helpers.{Helper, helper_numbered, helper_value, raw_value, not_deep, put_member, members_of, members_in, items_in, is_record, has_property, updated, argument}
use Rattle.gl_value.specs.Proper.{IsProper, Keeps, KeepAll, KeepMembers}
use Rattle.gl_value.proofs.Propers.{property_proper}
use Rattle.gl_value.proofs.Values.{pairs_of-pair_list}
use Rattle.gl_helpers.specs.Proper.{AllProper, NamedProper}
use Rattle.gl_helpers.specs.Records.{text_order, put_pair}
use Rattle.gl_helpers.specs.declared.helper.Choice.TheVariants as choice
use Rattle.gl_helpers.specs.declared.helper.Number.TheVariants as number
use Rattle.gl_helpers.specs.declared.helper.Listing.TheVariants as listing
use Rattle.gl_helpers.proofs.Orders.{equal_bytes}
use Rattle.gl_helpers.proofs.Puts.{Orders, keeps_put, pairs_of-put_pair}
use Rattle.gl_helpers.proofs.Propers.{argument_keeps, items_keep, members_keep, choice_keeps, number_keeps, listing_keeps}
use Rattle.gl_refs.specs.Forms.{V, NamedIds, Form, constant_form, source_form, prop_form, call_form, cat_form, all_form, Pair, blank, Look, form_or, form_at, below, meaning_to, meaning, is_choice, chosen, called, value_or, value_by}
use Rattle.gl_refs.proofs.Encoded.{same_bytes}
use Rattle.gl_refs.specs.Laws.{HoldsProper, AreProper}

undefined_proper : IsProper {O = ℕ} undefined
undefined_proper = (omega arith, tt)

-- what isn't nested too deep
not_deep_by : (v : V) (b : Bool) → nat_lt 100 (depth v) ≡ b → Keeps v → IsProper (cond b undefined v)
not_deep_by v true e k = undefined_proper
not_deep_by v false e k = (ltb-false 100 (depth v) e, k)

not_deep_proper : (v : V) → Keeps v → IsProper (not_deep v)
not_deep_proper v k = not_deep_by v (nat_lt 100 (depth v)) refl k

-- a value that is put at a key
orders_by : (k : Text) (p : Text × V) (ps : List (Text × V)) (o : Ordering) → text_order p.0 k ≡ o → Orders k ps → Orders k (p ∷ ps)
orders_by k p ps Less e rest = inl (e, rest)
orders_by k p ps Equal e rest = inr (inl (same_bytes p.0 k (equal_bytes (bytes_of p.0) (bytes_of k) e)))
orders_by k p ps Greater e rest = inr (inr e)

orders : (k : Text) (ps : List (Text × V)) → Orders k ps
orders k [] = tt
orders k (p ∷ ps) = orders_by k p ps (text_order p.0 k) refl (orders k ps)

put_keeps : (k : Text) (x : V) (ms : Members ℕ) → KeepMembers ms → Keeps x → KeepMembers (put_member k x ms)
put_keeps k x ms h v =
    let put : KeepMembers (pairs_of (put_pair k x (pair_list ms))) = keeps_put k x (pair_list ms) (orders k (pair_list ms)) (rw (pairs_of-pair_list ms) h) v in
    rw (pairs_of-put_pair k x (pair_list ms), pairs_of-pair_list ms) at put

all_put_keep : (ms : Members ℕ) (es : List (Text × V)) → KeepMembers ms → NamedProper es → KeepMembers (members_of ms es)
all_put_keep ms [] h n = h
all_put_keep ms (e ∷ es) h n = all_put_keep (put_member e.0 e.1 ms) es (put_keeps e.0 e.1 ms h n.0.1) n.1

module _ (args : List V) (names : List (Text × V)) (all : AllProper args) (named : NamedProper names) where
  updated_by : (v : V) (b : Bool) → Keeps v → Keeps (cond b (not_deep (pairs (put_member (text_of (argument nat_eq args names 3)) (argument nat_eq args names 4) (members_in v)))) v)
  updated_by v true k = (not_deep_proper (pairs (put_member (text_of (argument nat_eq args names 3)) (argument nat_eq args names 4) (members_in v))) (put_keeps (text_of (argument nat_eq args names 3)) (argument nat_eq args names 4) (members_in v) (members_keep v k) (argument_keeps 4 args all))).1
  updated_by v false k = k

  all_updated : (vs : List V) → KeepAll (values_of vs) → KeepAll (values_of (map (updated nat_eq args names) vs))
  all_updated [] k = tt
  all_updated (v ∷ vs) k = (updated_by v (is_record v && has_property nat_eq args names v) k.0, all_updated vs k.1)

  raw_keeps : (h : Helper) → Keeps (raw_value nat_eq args names h)
  raw_keeps helper.if_helper = choice_keeps nat_eq args names all choice.If
  raw_keeps helper.unless_helper = choice_keeps nat_eq args names all choice.Unless
  raw_keeps helper.concat_helper = tt
  raw_keeps helper.array_helper = listing_keeps nat_eq args names all listing.Array
  raw_keeps helper.hash_helper = all_put_keep no_members names tt named
  raw_keeps helper.get_helper = choice_keeps nat_eq args names all choice.Get
  raw_keeps helper.fn_helper = choice_keeps nat_eq args names all choice.Fix
  raw_keeps helper.add_helper = number_keeps nat_eq args names all number.Add
  raw_keeps helper.sub_helper = number_keeps nat_eq args names all number.Sub
  raw_keeps helper.mul_helper = number_keeps nat_eq args names all number.Mul
  raw_keeps helper.min_helper = number_keeps nat_eq args names all number.Min
  raw_keeps helper.max_helper = number_keeps nat_eq args names all number.Max
  raw_keeps helper.eq_helper = tt
  raw_keeps helper.ne_helper = tt
  raw_keeps helper.not_helper = tt
  raw_keeps helper.and_helper = choice_keeps nat_eq args names all choice.And
  raw_keeps helper.or_helper = choice_keeps nat_eq args names all choice.Or
  raw_keeps helper.lt_helper = tt
  raw_keeps helper.lte_helper = tt
  raw_keeps helper.gt_helper = tt
  raw_keeps helper.gte_helper = tt
  raw_keeps helper.length_helper = number_keeps nat_eq args names all number.Length
  raw_keeps helper.append_helper = listing_keeps nat_eq args names all listing.Append
  raw_keeps helper.remove_at_helper = listing_keeps nat_eq args names all listing.RemoveAt
  raw_keeps helper.put_helper = put_keeps (text_of (argument nat_eq args names 1)) (argument nat_eq args names 2) (members_in (argument nat_eq args names 0)) (members_keep (argument nat_eq args names 0) (argument_keeps 0 args all)) (argument_keeps 2 args all)
  raw_keeps helper.slice_helper = listing_keeps nat_eq args names all listing.Slice
  raw_keeps helper.reverse_helper = listing_keeps nat_eq args names all listing.Reverse
  raw_keeps helper.includes_helper = tt
  raw_keeps helper.where_helper = listing_keeps nat_eq args names all listing.Where
  raw_keeps helper.remove_where_helper = listing_keeps nat_eq args names all listing.RemoveWhere
  raw_keeps helper.update_where_helper = all_updated (items_in (argument nat_eq args names 0)) (items_keep (argument nat_eq args names 0) (argument_keeps 0 args all))
  raw_keeps helper.pluck_helper = listing_keeps nat_eq args names all listing.Pluck
  raw_keeps helper.join_helper = tt

  helped_proper : (o : Option Helper) → IsProper (unwrap_or (option_map (helper_value nat_eq args names) o) undefined)
  helped_proper None = undefined_proper
  helped_proper (Some h) = not_deep_proper (raw_value nat_eq args names h) (raw_keeps h)

kept_proper : (vs : List V) → IsProper (join_kept vs)
kept_proper [] = (omega arith, tt)
kept_proper (v ∷ vs) = (omega arith, tt)

-- what a form gives, where parts have proper values
module _ (f : Id → V) (h : (q : Id) → IsProper (f q)) where
  values_proper : (ids : List Id) → AllProper (map f ids)
  values_proper [] = tt
  values_proper (q ∷ qs) = (h q, values_proper qs)

  names_proper : (ns : NamedIds) → NamedProper (map {B = Text × V} (λ (n : Text × Id). (n.0, f n.1)) ns)
  names_proper [] = tt
  names_proper (n ∷ ns) = (h n.1, names_proper ns)

  branch_proper : (o : Option Id) → IsProper (value_or f o)
  branch_proper None = undefined_proper
  branch_proper (Some q) = h q

  either_proper : (b : Bool) (v w : V) → IsProper v → IsProper w → IsProper (cond b v w)
  either_proper true v w p q = p
  either_proper false v w p q = q

  form_proper : (g : Form) → HoldsProper g → IsProper (value_by f g)
  form_proper (constant_form v) p = p
  form_proper (source_form k t v) p = p
  form_proper (prop_form r name) p = property_proper ℕ name (f r) (h r)
  form_proper (call_form n ids ns) p =
      either_proper (is_choice n) (value_or f (slice_get (chosen f (eqb n 0) ids) 1)) (called n (map f ids) (map {B = Text × V} (λ (m : Text × Id). (m.0, f m.1)) ns)) (branch_proper (slice_get (chosen f (eqb n 0) ids) 1))
      (helped_proper (map f ids) (map {B = Text × V} (λ (m : Text × Id). (m.0, f m.1)) ns) (values_proper ids) (names_proper ns) (helper_numbered n))
  form_proper (cat_form ids) p = kept_proper (filter (λ v. not (is_missing v)) (map f ids))
  form_proper (all_form ids) p = undefined_proper

holds : (l : Look) (o : Option Form) (i : Id) → l i ≡ o → AreProper l → HoldsProper (form_or o)
holds l None i e a = undefined_proper
holds l (Some g) i e a = a i g e

lower_proper : (f : Id → Pair) (b : Bool) (k : Id) → IsProper (f k).value → IsProper (cond b (f k) blank).value
lower_proper f true k h = h
lower_proper f false k h = undefined_proper

to_proper : (n : ℕ) (l : Look) → AreProper l → (i : Id) → IsProper (meaning_to n l i).value
to_proper zero l a i = undefined_proper
to_proper (suc n) l a i =
    form_proper (λ q. (below (meaning_to n l) i q).value) (λ q. lower_proper (meaning_to n l) (ltb q.1 i.1) q (to_proper n l a q)) (form_at l i) (holds l (l i) i refl a)

pub meaning_proper : (l : Look) → AreProper l → (i : Id) → IsProper (meaning l i).value
unfolding meaning
meaning_proper l a i = to_proper (suc i.1) l a i
