-- The texts of JSON that is read from UTF-8 are UTF-8: values.
use Rattle.std.proofs.Common.{◌≡◌, ℕ, zero, suc, List, [], ◌∷◌, length, Option, Some, None}
use Rattle.std.specs.Prelude.{option_and_then}
use Rattle.std.specs.Ordering.{nat_cmp, match_ordering}
use Rattle.std.specs.Cmp.Lexicographic.{slice_cmp}
use Rattle.std.specs.declared.cmp.Ordering.{Ordering}
use Rattle.std.specs.declared.cmp.Ordering.TheVariants.{Less, Equal, Greater}
use Rattle.std.specs.Str.{IsUtf8, is_utf8}
use Rattle.std.proofs.lemmas.Str.{IsUtf8-from_is_utf8, IsUtf8-nil}
use Rattle.json.specs.Token as t
use Rattle.json.specs.Lex.{tokens}
use Rattle.json.specs.Json as j
use Rattle.serde_json.specs.Data as d
use Rattle.serde_json.specs.Find.{get, get_member}
use Rattle.serde_json.specs.Read.{number_of, of_json, of_items, of_members, max_depth, read}
use Rattle.gl_meaning.specs.JsonText.{read_json, members_in, items_in, members_at, items_at, text_in, text_at}
use Rattle.gl_meaning.specs.ManifestRules.{Each}
use Rattle.gl_manifest.proofs.Given.{Gives, given_map, given_then, Anything, anything, if_given, found_given, members_given}
use Rattle.gl_manifest.proofs.JsonTokens.{IsTextToken, tokens_text}

-- What the grammar reads

abbrev mutual
  IsTextJson : j.Json → Type 0
  IsTextJson (j.string s) = IsUtf8 s
  IsTextJson (j.array js) = AreTextItems js
  IsTextJson (j.object ms) = AreTextMembers ms
  IsTextJson _ = Unit {0}

  AreTextItems : j.Items → Type 0
  AreTextItems j.no_items = Unit {0}
  AreTextItems (j.item x js) = IsTextJson x × AreTextItems js

  AreTextMembers : j.Members → Type 0
  AreTextMembers j.no_members = Unit {0}
  AreTextMembers (j.member k x ms) = IsTextJson x × AreTextMembers ms

-- what was read is such, and so are the tokens left
abbrev Reads : {A : Type 0} → (A → Type 0) → Option (A × List t.Token) → Type 0
Reads P None = Unit {0}
Reads P (Some p) = P p.0 × Each IsTextToken p.1

mapped : {A B : Type 0} (P : A → Type 0) (Q : B → Type 0) (f : A → B) → ((x : A) → P x → Q (f x)) → (o : Option (A × List t.Token)) → Reads P o → Reads Q (j.parse_map f o)
mapped P Q f h None r = tt
mapped P Q f h (Some p) r = (h p.0 r.0, r.1)

bound : {A B : Type 0} (P : A → Type 0) (Q : B → Type 0) (f : A × List t.Token → Option (B × List t.Token)) → ((p : A × List t.Token) → P p.0 → Each IsTextToken p.1 → Reads Q (f p)) → (o : Option (A × List t.Token)) → Reads P o → Reads Q (option_and_then f o)
bound P Q f h None r = tt
bound P Q f h (Some p) r = h p r.0 r.1

abbrev LeavesText : Option (List t.Token) → Type 0
LeavesText None = Unit {0}
LeavesText (Some ts) = Each IsTextToken ts

end_left : (ts : List t.Token) → Each IsTextToken ts → LeavesText (j.after_end_array ts)
end_left [] h = tt
end_left (t.begin_object ∷ ts) h = tt
end_left (t.end_object ∷ ts) h = tt
end_left (t.begin_array ∷ ts) h = tt
end_left (t.end_array ∷ ts) h = h.1
end_left (t.key s ∷ ts) h = tt
end_left (t.string s ∷ ts) h = tt
end_left (t.number s ∷ ts) h = tt
end_left (t.boolean b ∷ ts) h = tt
end_left (t.null ∷ ts) h = tt
end_left (t.bad ∷ ts) h = tt

key_read : (ts : List t.Token) → Each IsTextToken ts → Reads Anything (j.read_key ts)
key_read [] h = tt
key_read (t.begin_object ∷ ts) h = tt
key_read (t.end_object ∷ ts) h = (tt, h.1)
key_read (t.begin_array ∷ ts) h = tt
key_read (t.end_array ∷ ts) h = tt
key_read (t.key s ∷ ts) h = (tt, h.1)
key_read (t.string s ∷ ts) h = tt
key_read (t.number s ∷ ts) h = tt
key_read (t.boolean b ∷ ts) h = tt
key_read (t.null ∷ ts) h = tt
key_read (t.bad ∷ ts) h = tt

-- a reader that reads such
abbrev IsReader : {A : Type 0} → (A → Type 0) → j.Parse A → Type 0
IsReader P f = (ts : List t.Token) → Each IsTextToken ts → Reads P (f ts)

items_stepped : (value : j.Parse j.Json) (more : j.Parse j.Items) → IsReader IsTextJson value → IsReader AreTextItems more → (ts : List t.Token) (o : Option (List t.Token)) → Each IsTextToken ts → LeavesText o → Reads AreTextItems (j.items_step value more ts o)
items_stepped value more v m ts (Some rest) h l = (tt, l)
items_stepped value more v m ts None h l =
    bound IsTextJson AreTextItems _ (λ p x r. mapped AreTextItems AreTextItems (j.item p.0) (λ js y. (x, y)) (more p.1) (m p.1 r)) (value ts) (v ts h)

items_read : (value : j.Parse j.Json) → IsReader IsTextJson value → (n : ℕ) → IsReader AreTextItems (j.items value n)
unfolding j.items
items_read value v zero ts h = tt
items_read value v (suc n) ts h = items_stepped value (j.items value n) v (items_read value v n) ts (j.after_end_array ts) h (end_left ts h)

members_stepped : (value : j.Parse j.Json) (more : j.Parse j.Members) → IsReader IsTextJson value → IsReader AreTextMembers more → (o : Option (List ℕ)) → IsReader AreTextMembers (j.members_step value more o)
members_stepped value more v m None ts h = (tt, h)
members_stepped value more v m (Some k) ts h =
    bound IsTextJson AreTextMembers _ (λ p x r. mapped AreTextMembers AreTextMembers (j.member k p.0) (λ ms y. (x, y)) (more p.1) (m p.1 r)) (value ts) (v ts h)

members_read : (value : j.Parse j.Json) → IsReader IsTextJson value → (n : ℕ) → IsReader AreTextMembers (j.members value n)
unfolding j.members
members_read value v zero ts h = tt
members_read value v (suc n) ts h =
    bound Anything AreTextMembers _ (λ p x r. members_stepped value (j.members value n) v (members_read value v n) p.0 p.1 r) (j.read_key ts) (key_read ts h)

value_read_with : (items : j.Parse j.Items) (members : j.Parse j.Members) → IsReader AreTextItems items → IsReader AreTextMembers members → IsReader IsTextJson (j.value_with items members)
value_read_with items members a o [] h = tt
value_read_with items members a o (t.begin_object ∷ ts) h = mapped AreTextMembers IsTextJson j.object (λ ms y. y) (members ts) (o ts h.1)
value_read_with items members a o (t.end_object ∷ ts) h = tt
value_read_with items members a o (t.begin_array ∷ ts) h = mapped AreTextItems IsTextJson j.array (λ js y. y) (items ts) (a ts h.1)
value_read_with items members a o (t.end_array ∷ ts) h = tt
value_read_with items members a o (t.key s ∷ ts) h = tt
value_read_with items members a o (t.string s ∷ ts) h = (h.0, h.1)
value_read_with items members a o (t.number s ∷ ts) h = (tt, h.1)
value_read_with items members a o (t.boolean b ∷ ts) h = (tt, h.1)
value_read_with items members a o (t.null ∷ ts) h = (tt, h.1)
value_read_with items members a o (t.bad ∷ ts) h = tt

value_read : (depth : ℕ) → IsReader IsTextJson (j.value depth)
unfolding j.value
value_read zero ts h = value_read_with (λ ts. None) (λ ts. None) (λ ts g. tt) (λ ts g. tt) ts h
value_read (suc depth) ts h =
    value_read_with _ _ (λ ts g. items_read (j.value depth) (value_read depth) (length ts) ts g) (λ ts g. members_read (j.value depth) (value_read depth) (length ts) ts g) ts h

-- What it is as a value

abbrev mutual
  pub IsTextData : d.Data → Type 0
  IsTextData (d.string s) = IsUtf8 s
  IsTextData (d.array ds) = AreTextData ds
  IsTextData (d.object ms) = HaveTextData ms
  IsTextData _ = Unit {0}

  pub AreTextData : d.Items → Type 0
  AreTextData d.no_items = Unit {0}
  AreTextData (d.item x ds) = IsTextData x × AreTextData ds

  pub HaveTextData : d.Members → Type 0
  HaveTextData d.no_members = Unit {0}
  HaveTextData (d.member k x ms) = IsTextData x × HaveTextData ms

by_order : (a b c : d.Members) (o : Ordering) → HaveTextData a → HaveTextData b → HaveTextData c → HaveTextData (match_ordering o a b c)
by_order a b c Less p q r = p
by_order a b c Equal p q r = q
by_order a b c Greater p q r = r

put_text : (k : List ℕ) (x : d.Data) (ms : d.Members) → IsTextData x → HaveTextData ms → HaveTextData (d.put k x ms)
put_text k x d.no_members h g = (h, tt)
put_text k x (d.member l e ms) h g = by_order _ _ _ (slice_cmp nat_cmp k l) (h, g) (h, g.1) (g.0, put_text k x ms h g.1)

mutual
  data_text : (x : j.Json) → IsTextJson x → Gives IsTextData (of_json x)
  data_text j.null h = tt
  data_text (j.boolean b) h = tt
  data_text (j.number s) h = given_map Anything IsTextData d.number (λ n y. tt) (number_of s) (anything (number_of s))
  data_text (j.string s) h = h
  data_text (j.array js) h = given_map AreTextData IsTextData d.array (λ ds y. y) (of_items js) (items_text js h)
  data_text (j.object ms) h = given_map HaveTextData IsTextData d.object (λ ns y. y) (of_members ms d.no_members) (members_text ms d.no_members h tt)

  items_text : (js : j.Items) → AreTextItems js → Gives AreTextData (of_items js)
  items_text j.no_items h = tt
  items_text (j.item x js) h =
      given_then IsTextData AreTextData _ (λ y p. given_map AreTextData AreTextData (d.item y) (λ ds q. (p, q)) (of_items js) (items_text js h.1)) (of_json x) (data_text x h.0)

  members_text : (ms : j.Members) (found : d.Members) → AreTextMembers ms → HaveTextData found → Gives HaveTextData (of_members ms found)
  members_text j.no_members found h g = g
  members_text (j.member k x ms) found h g =
      given_then IsTextData HaveTextData _ (λ y p. members_text ms (d.put k y found) h.1 (put_text k y found p g)) (of_json x) (data_text x h.0)

last_text : (x : j.Json) (ts : List t.Token) → IsTextJson x → Gives IsTextJson (j.if_last x ts)
last_text x [] h = h
last_text x (s ∷ ts) h = tt

whole_text : (o : Option (j.Json × List t.Token)) → Reads IsTextJson o → Gives IsTextJson (option_and_then (λ p. j.if_last p.0 p.1) o)
whole_text None r = tt
whole_text (Some p) r = last_text p.0 p.1 r.0

read_text : (text : List ℕ) → IsUtf8 text → Gives IsTextData (read text)
read_text text u = given_then IsTextJson IsTextData of_json data_text _ (whole_text (j.value max_depth (tokens text)) (value_read max_depth (tokens text) (tokens_text text u)))

pub json_text : (bytes : List ℕ) (x : d.Data) → read_json bytes ≡ Some x → IsTextData x
unfolding read_json
json_text bytes x e = if_given IsTextData (is_utf8 bytes) (read bytes) x (λ u. read_text bytes (IsUtf8-from_is_utf8 bytes u)) e

-- Looking into it

member_text : (k : List ℕ) (ms : d.Members) → HaveTextData ms → Gives IsTextData (get_member k ms)
member_text k d.no_members h = tt
member_text k (d.member l e ms) h = found_given IsTextData (get_member k ms) (Some e) (slice_cmp nat_cmp k l) (member_text k ms h.1) h.0

get_text : (k : List ℕ) (x : d.Data) → IsTextData x → Gives IsTextData (get k x)
get_text k d.null h = tt
get_text k (d.boolean b) h = tt
get_text k (d.number n) h = tt
get_text k (d.string s) h = tt
get_text k (d.array ds) h = tt
get_text k (d.object ms) h = member_text k ms h

text_is : (x : d.Data) → IsTextData x → IsUtf8 (text_in (Some x))
text_is d.null h = IsUtf8-nil
text_is (d.boolean b) h = IsUtf8-nil
text_is (d.number n) h = IsUtf8-nil
text_is (d.string s) h = h
text_is (d.array ds) h = IsUtf8-nil
text_is (d.object ms) h = IsUtf8-nil

pub text_in_text : (o : Option d.Data) → Gives IsTextData o → IsUtf8 (text_in o)
text_in_text None g = IsUtf8-nil
text_in_text (Some x) g = text_is x g

members_are : (o : Option d.Data) → Gives IsTextData o → HaveTextData (members_in o)
members_are o g = members_given IsTextData HaveTextData (λ ms h. h) tt o g

items_are : (o : Option d.Data) → Gives IsTextData o → AreTextData (items_in o)
items_are None g = tt
items_are (Some d.null) g = tt
items_are (Some (d.boolean b)) g = tt
items_are (Some (d.number n)) g = tt
items_are (Some (d.string s)) g = tt
items_are (Some (d.array ds)) g = g
items_are (Some (d.object ms)) g = tt

pub text_at_text : (k : List ℕ) (x : d.Data) → IsTextData x → IsUtf8 (text_at k x)
text_at_text k x h = text_in_text (get k x) (get_text k x h)

pub members_at_text : (k : List ℕ) (x : d.Data) → IsTextData x → HaveTextData (members_at k x)
members_at_text k x h = members_are (get k x) (get_text k x h)

pub items_at_text : (k : List ℕ) (x : d.Data) → IsTextData x → AreTextData (items_at k x)
items_at_text k x h = items_are (get k x) (get_text k x h)
