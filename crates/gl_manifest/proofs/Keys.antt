-- In JSON that is read the keys of each object rise.
use Rattle.std.proofs.Common.{◌≡◌, ℕ, List, Option, Some, None, refl, ap, ◌∙◌}
use Rattle.std.specs.Prelude.{option_and_then}
use Rattle.std.specs.Ordering.{nat_cmp, match_ordering, ordering_reverse}
use Rattle.std.specs.Cmp.Lexicographic.{slice_cmp}
use Rattle.std.specs.Str.{is_utf8}
use Rattle.std.specs.declared.cmp.Ordering.{Ordering}
use Rattle.std.specs.declared.cmp.Ordering.TheVariants.{Less, Equal, Greater}
use Rattle.std.proofs.lemmas.Cmp.{nat_list_cmp_total}
use Rattle.json.specs.Lex.{tokens}
use Rattle.json.specs.Json as j
use Rattle.serde_json.specs.Data as d
use Rattle.serde_json.specs.Find.{get_member}
use Rattle.serde_json.specs.Read.{number_of, of_json, of_items, of_members, max_depth, read}
use Rattle.gl_meaning.specs.JsonText.{read_json, members_in}
use Rattle.gl_manifest.proofs.Given.{Gives, given_map, given_then, Anything, anything, if_given, found_given, members_given}

-- the key is less than each of the members'
abbrev pub IsFirst : List ℕ → d.Members → Type 0
IsFirst k d.no_members = Unit {0}
IsFirst k (d.member l x ms) = (slice_cmp nat_cmp k l ≡ Less) × IsFirst k ms

-- in each object the keys rise
abbrev mutual
  pub IsOrdered : d.Data → Type 0
  IsOrdered (d.array ds) = AreOrdered ds
  IsOrdered (d.object ms) = KeysRise ms
  IsOrdered _ = Unit {0}

  pub AreOrdered : d.Items → Type 0
  AreOrdered d.no_items = Unit {0}
  AreOrdered (d.item x ds) = IsOrdered x × AreOrdered ds

  pub KeysRise : d.Members → Type 0
  KeysRise d.no_members = Unit {0}
  KeysRise (d.member k x ms) = IsFirst k ms × IsOrdered x × KeysRise ms

-- Putting a member in

first_before : (k l : List ℕ) (ms : d.Members) → slice_cmp nat_cmp k l ≡ Less → IsFirst l ms → IsFirst k ms
first_before k l d.no_members h f = tt
first_before k l (d.member m x ms) h f = (nat_list_cmp_total.trans k l m h f.0, first_before k l ms h f.1)

first_put_by : (l k m : List ℕ) (x e : d.Data) (ms : d.Members) (o : Ordering) → slice_cmp nat_cmp l k ≡ Less → IsFirst l (d.member m e ms) → IsFirst l (d.put k x ms) → IsFirst l (match_ordering o (d.member k x (d.member m e ms)) (d.member m x ms) (d.member m e (d.put k x ms)))
first_put_by l k m x e ms Less h f more = (h, f)
first_put_by l k m x e ms Equal h f more = f
first_put_by l k m x e ms Greater h f more = (f.0, more)

first_put : (l k : List ℕ) (x : d.Data) (ms : d.Members) → slice_cmp nat_cmp l k ≡ Less → IsFirst l ms → IsFirst l (d.put k x ms)
first_put l k x d.no_members h f = (h, tt)
first_put l k x (d.member m e ms) h f = first_put_by l k m x e ms (slice_cmp nat_cmp k m) h f (first_put l k x ms h f.1)

greater_is_less : (k l : List ℕ) → slice_cmp nat_cmp k l ≡ Greater → slice_cmp nat_cmp l k ≡ Less
greater_is_less k l e = nat_list_cmp_total.antisymm l k ∙ ap ordering_reverse e

put_rises_by : (k l : List ℕ) (x e : d.Data) (ms : d.Members) (o : Ordering) → slice_cmp nat_cmp k l ≡ o → IsOrdered x → KeysRise (d.member l e ms) → KeysRise (d.put k x ms) → KeysRise (match_ordering o (d.member k x (d.member l e ms)) (d.member l x ms) (d.member l e (d.put k x ms)))
put_rises_by k l x e ms Less is h r more = ((is, first_before k l ms is r.0), h, r)
put_rises_by k l x e ms Equal is h r more = (r.0, h, r.2)
put_rises_by k l x e ms Greater is h r more = (first_put l k x ms (greater_is_less k l is) r.0, r.1, more)

put_rises : (k : List ℕ) (x : d.Data) (ms : d.Members) → IsOrdered x → KeysRise ms → KeysRise (d.put k x ms)
put_rises k x d.no_members h r = (tt, h, tt)
put_rises k x (d.member l e ms) h r = put_rises_by k l x e ms (slice_cmp nat_cmp k l) refl h r (put_rises k x ms h r.2)

-- Reading

mutual
  data_ordered : (x : j.Json) → Gives IsOrdered (of_json x)
  data_ordered j.null = tt
  data_ordered (j.boolean b) = tt
  data_ordered (j.number s) = given_map Anything IsOrdered d.number (λ n y. tt) (number_of s) (anything (number_of s))
  data_ordered (j.string s) = tt
  data_ordered (j.array js) = given_map AreOrdered IsOrdered d.array (λ ds y. y) (of_items js) (items_ordered js)
  data_ordered (j.object ms) = given_map KeysRise IsOrdered d.object (λ ns y. y) (of_members ms d.no_members) (members_rise ms d.no_members tt)

  items_ordered : (js : j.Items) → Gives AreOrdered (of_items js)
  items_ordered j.no_items = tt
  items_ordered (j.item x js) =
      given_then IsOrdered AreOrdered _ (λ y p. given_map AreOrdered AreOrdered (d.item y) (λ ds q. (p, q)) (of_items js) (items_ordered js)) (of_json x) (data_ordered x)

  members_rise : (ms : j.Members) (found : d.Members) → KeysRise found → Gives KeysRise (of_members ms found)
  members_rise j.no_members found r = r
  members_rise (j.member k x ms) found r =
      given_then IsOrdered KeysRise _ (λ y p. members_rise ms (d.put k y found) (put_rises k y found p r)) (of_json x) (data_ordered x)

found_ordered : (o : Option j.Json) → Gives IsOrdered (option_and_then of_json o)
found_ordered None = tt
found_ordered (Some x) = data_ordered x

read_ordered : (text : List ℕ) → Gives IsOrdered (read text)
read_ordered text = found_ordered (option_and_then (λ p. j.if_last p.0 p.1) (j.value max_depth (tokens text)))

pub json_ordered : (bytes : List ℕ) (x : d.Data) → read_json bytes ≡ Some x → IsOrdered x
unfolding read_json
json_ordered bytes x e = if_given IsOrdered (is_utf8 bytes) (read bytes) x (λ u. read_ordered bytes) e

-- Looking into it

pub member_ordered : (k : List ℕ) (ms : d.Members) → KeysRise ms → Gives IsOrdered (get_member k ms)
member_ordered k d.no_members r = tt
member_ordered k (d.member l e ms) r = found_given IsOrdered (get_member k ms) (Some e) (slice_cmp nat_cmp k l) (member_ordered k ms r.2) r.1

pub members_in_rise : (o : Option d.Data) → Gives IsOrdered o → KeysRise (members_in o)
members_in_rise o g = members_given IsOrdered KeysRise (λ ms r. r) tt o g
