-- A map of names with values that are lent.
use Rattle.std.proofs.Common.{◌≡◌, ℕ, List, [], ◌∷◌, refl, sym, ap, ◌∙◌}
use Rattle.std.specs.Prelude.{String, string_bytes}
use Rattle.std.specs.Borrow.{Bor}
use Rattle.std.specs.BTreeMap.{insert_entry}
use Rattle.std.specs.List.{AllByRecursion}
use Rattle.std.specs.List.Sorted.{IsStrictlySortedBy}
use Rattle.std.specs.Map.{keys_of}
use Rattle.std.specs.Ordering.{is_lt, match_ordering, ordering_reverse}
use Rattle.std.specs.Str.{chars}
use Rattle.std.specs.String.{string_cmp}
use Rattle.std.specs.declared.alloc.Global.{Global}
use Rattle.std.specs.declared.cmp.Ordering.{Ordering}
use Rattle.std.specs.declared.cmp.Ordering.TheVariants.{Less, Equal, Greater}
use Rattle.std.proofs.lemmas.Map.Keys.{sorted_head, sorted_tail}
use Rattle.std.proofs.lemmas.Str.{encodes-chars, IsUtf8-string_bytes}
use Rattle.gl_base.specs.Texts.{Text}
use Rattle.gl_value.specs.Value as v
use Rattle.gl_value.specs.View.{view, Entry, seen_entries}
use Rattle.gl_value.specs.Value.{pairs_of}
use Rattle.gl_value.specs.Proper.{IsBefore, KeepMembers}
use Rattle.gl_value.proofs.Keeping.{KeepValues}
use Rattle.gl_value.specs.declared.value.Value.{Value}
use Rattle.gl_helpers.specs.Lent.{Lent, seen_loan, seen_lent}
use Rattle.gl_helpers.specs.Records.{text_order, put_pair, put_all}
use Rattle.gl_helpers.proofs.Orders.{equal_bytes, order_back}
use Rattle.gl_helpers.proofs.Puts.{put_past, put_over, put_ahead}

abbrev pub name_of : String Global → Text
name_of k = chars (string_bytes k)

-- strings are in the order of their characters' bytes
names_order : (k l : String Global) → string_cmp k l ≡ text_order (name_of k) (name_of l)
names_order k l =
    let one = encodes-chars (string_bytes k) (IsUtf8-string_bytes k) in
    let two = encodes-chars (string_bytes l) (IsUtf8-string_bytes l) in
    rw (one, two) refl

-- one step of an insertion is one of putting
insert_step : (o : Ordering) (k : String Global) (x : Bor Value) (e : Lent) (es rest : List Lent) → string_cmp k e.0 ≡ o → seen_lent rest ≡ put_pair (name_of k) (view x.now) (seen_lent es)
    → seen_lent (match_ordering o ((k, x) ∷ e ∷ es) ((e.0, x) ∷ es) (e ∷ rest)) ≡ put_pair (name_of k) (view x.now) (seen_lent (e ∷ es))
insert_step Less k x e es rest o h = sym (put_ahead (name_of k) (view x.now) (seen_loan e) (seen_lent es) (order_back (name_of e.0) (name_of k) ∙ ap ordering_reverse (sym (names_order k e.0) ∙ o)))
insert_step Equal k x e es rest o h =
    let same : name_of e.0 ≡ name_of k = ap chars (sym (equal_bytes (string_bytes k) (string_bytes e.0) o)) in
    ap (λ n. (n, view x.now) ∷ seen_lent es) same ∙ sym (put_over (name_of k) (view x.now) (seen_loan e) (seen_lent es) same)
insert_step Greater k x e es rest o h =
    ap (λ l. seen_loan e ∷ l) h ∙ sym (put_past (name_of k) (view x.now) (seen_loan e) (seen_lent es) (order_back (name_of e.0) (name_of k) ∙ ap ordering_reverse (sym (names_order k e.0) ∙ o)))

pub seen_lent-insert : (k : String Global) (x : Bor Value) (es : List Lent) → seen_lent (insert_entry string_cmp es k x) ≡ put_pair (name_of k) (view x.now) (seen_lent es)
seen_lent-insert k x [] = refl
seen_lent-insert k x (e ∷ es) = insert_step (string_cmp k e.0) k x e es (insert_entry string_cmp es k x) refl (seen_lent-insert k x es)

-- one more name is put in
pub put_named : (k : String Global) (x : Bor Value) (e : Entry) (es new : List Lent) (rest : List Entry) (all : List (Text × v.Value ℕ)) → name_of k ≡ e.0 → x.now ≡ e.1 → new ≡ insert_entry string_cmp es k x
    → put_all (seen_lent es) (seen_entries (e ∷ rest)) ≡ all → put_all (seen_lent new) (seen_entries rest) ≡ all
put_named k x e es new rest all name value is whole =
    let put : seen_lent new ≡ put_pair e.0 (view e.1) (seen_lent es) = ap seen_lent is ∙ seen_lent-insert k x es ∙ rw (name, value) refl in
    ap (λ l. put_all l (seen_entries rest)) put ∙ whole

-- the members of names that rise keep their order
lent_before : (k : String Global) (es : List Lent) → AllByRecursion (λ (y : String Global). string_cmp k y ≡ Less) (keys_of es) → IsBefore (name_of k) (pairs_of (seen_lent es))
lent_before k [] h = tt
lent_before k (e ∷ es) h = ap is_lt (sym (names_order k e.0) ∙ h.0)

pub lent_keeps : (es : List Lent) → IsStrictlySortedBy string_cmp (keys_of es) → KeepValues (seen_lent es) → KeepMembers (pairs_of (seen_lent es))
lent_keeps [] sorted h = tt
lent_keeps (e ∷ es) sorted h =
    (lent_before e.0 es (sorted_head string_cmp e.0 (keys_of es) sorted), h.0, lent_keeps es (sorted_tail string_cmp e.0 (keys_of es) sorted) h.1)
