-- What is read is what is held.
use Rattle.std.proofs.Common.{◌≡◌, ◌∙◌, ℕ, ◌+◌, ◌≤◌, List, [], ◌∷◌, Bool, true, false, cond, refl, sym, ap, subst, arith, Option, Some, None, Ok, Err, inl, inr}
use Rattle.std.specs.Prelude.{codes, nat_lt, nat_le, ◌&&◌}
use Rattle.std.specs.Str.{chars}
use Rattle.std.proofs.lemmas.Bool.Decides.{nat_tests}
use Rattle.serde_json.specs.Data as json
use Rattle.serde_json.specs.Find.{get}
use Rattle.gl_base.specs.Texts.{Text}
use Rattle.gl_value.specs.Value.{Value, undefined, plain}
use Rattle.gl_ast.specs.Template.{Plain}
use Rattle.gl_meaning.specs.App.{Event, set_event, fire, batch, Events, events_of}
use Rattle.gl_meaning.specs.JsonText.{read_json}
use Rattle.gl_meaning.specs.ManifestIs.{ItemsAre, IsText}
use Rattle.gl_meaning.specs.ScriptOf.{Fields, is_set, has_data, is_fire, is_batch, at_key, text_found, greatest_node, node_found, set_found, payload_found, fire_found, simple_found, batch_found, event_found, script_found, first_unknown, script, with_names, of_found, of_json, script_reading}
use Rattle.gl_meaning.specs.Walk.{Found, faulty, given, under, ◌then◌, value_at, read_items}
use Rattle.gl_meaning.proofs.Forms.{then_gave, under_gave, ok_is}
use Rattle.gl_script.specs.ScriptIs.{At, IsPlain, IsNode, IsPayload, IsSimple, IsBatch, IsEvent, IsScript, Holds}
use Rattle.gl_script.proofs.Keys.{set_is_no_batch, fire_is_no_batch, fire_is_no_set}

given_gave : {A : Type 0} (o : Option A) (x : A) → given o ≡ Ok x → o ≡ Some x
given_gave (Some y) x e = ap Some (sym (ok_is y x e))
given_gave None x e = let r : ⊥ = cc in absurd r

-- a member that is read, and the way back
at_gave : {A : Type 0} (k : List ℕ) (f : json.Data → Found A) (d : json.Data) (x : A) → at_key k f d ≡ Ok x → (m : json.Data) × (get k d ≡ Some m) × (f m ≡ Ok x)
at_gave k f d x e =
    let a = then_gave (given (get k d)) f x (under_gave _ (given (get k d) then f) x e) in
    (a.0, given_gave (get k d) a.0 a.1, a.2)

at_back : {A : Type 0} (k : List ℕ) (f : json.Data → Found A) (d m : json.Data) (x : A) → get k d ≡ Some m → f m ≡ Ok x → at_key k f d ≡ Ok x
at_back k f d m x is e = rw (is, e) refl

text_gave : (d : json.Data) (t : Text) → text_found d ≡ Ok t → IsText d t
text_gave (json.string s) t e = ok_is (chars s) t e
text_gave json.null t e = let r : ⊥ = cc in absurd r
text_gave (json.boolean b) t e = let r : ⊥ = cc in absurd r
text_gave (json.number n) t e = let r : ⊥ = cc in absurd r
text_gave (json.array ds) t e = let r : ⊥ = cc in absurd r
text_gave (json.object ms) t e = let r : ⊥ = cc in absurd r

text_back : (d : json.Data) (t : Text) → IsText d t → text_found d ≡ Ok t
text_back (json.string s) t h = ap Ok (sym h)
text_back json.null t h = absurd h
text_back (json.boolean b) t h = absurd h
text_back (json.number n) t h = absurd h
text_back (json.array ds) t h = absurd h
text_back (json.object ms) t h = absurd h

within_gave : (b : Bool) (m n : ℕ) → cond b (Ok m) faulty ≡ Ok n → (b ≡ true) × (n ≡ m)
within_gave true m n e = (refl, ok_is m n e)
within_gave false m n e = let r : ⊥ = cc in absurd r

bounds : (m most : ℕ) → (nat_lt 0 m && nat_le m most) ≡ true → (1 ≤ m) × (m ≤ most)
bounds m most e = (grind (arith, nat_tests), grind (arith, nat_tests))

bounds_back : (m most : ℕ) → 1 ≤ m → m ≤ most → (nat_lt 0 m && nat_le m most) ≡ true
bounds_back m most low high = grind (arith, nat_tests)

node_gave : (d : json.Data) (n : ℕ) → node_found d ≡ Ok n → IsNode d n
node_gave (json.number (json.unsigned m)) n e =
    let w = within_gave (nat_lt 0 m && nat_le m greatest_node) m n e in
    let b = bounds m greatest_node w.0 in
    rw w.1 (refl, b.0, b.1)
node_gave (json.number (json.negative z)) n e = let r : ⊥ = cc in absurd r
node_gave (json.number (json.float x)) n e = let r : ⊥ = cc in absurd r
node_gave json.null n e = let r : ⊥ = cc in absurd r
node_gave (json.boolean b) n e = let r : ⊥ = cc in absurd r
node_gave (json.string s) n e = let r : ⊥ = cc in absurd r
node_gave (json.array ds) n e = let r : ⊥ = cc in absurd r
node_gave (json.object ms) n e = let r : ⊥ = cc in absurd r

node_back : (d : json.Data) (n : ℕ) → IsNode d n → node_found d ≡ Ok n
node_back d n h = rw (h.0, bounds_back n greatest_node h.1 h.2) refl

text_at : (k : List ℕ) (d : json.Data) (t : Text) → at_key k text_found d ≡ Ok t → At k IsText d t
text_at k d t e = let m = at_gave k text_found d t e in (m.0, m.1, text_gave m.0 t m.2)

plain_at : (k : List ℕ) (d : json.Data) (w : Value ℕ) → at_key k value_at d ≡ Ok w → At k IsPlain d (plain w)
plain_at k d w e = let m = at_gave k (value_at {O = ℕ}) d w e in (m.0, m.1, (w, m.2, refl))

set_gave : (d : json.Data) (e : Event) → is_set d ≡ true → set_found d ≡ Ok e → IsSimple d e
set_gave d e is h =
    let f = then_gave (at_key (codes "set") text_found d) _ e h in
    let v = then_gave (at_key (codes "to") (value_at {O = ℕ}) d) _ e f.2 in
    subst (IsSimple d) (sym (ok_is (set_event f.0 (plain v.0)) e v.2)) (is, text_at (codes "set") d f.0 f.1, plain_at (codes "to") d v.0 v.1)

payload_gave : (b : Bool) (d : json.Data) (v : Plain) → has_data d ≡ b → cond b (at_key (codes "data") (value_at {O = ℕ}) d then λ w. Ok (plain w)) (Ok undefined) ≡ Ok v → IsPayload d v
payload_gave true d v is h =
    let w = then_gave (at_key (codes "data") (value_at {O = ℕ}) d) _ v h in
    inl (is, subst (At (codes "data") IsPlain d) (sym (ok_is (plain w.0) v w.2)) (plain_at (codes "data") d w.0 w.1))
payload_gave false d v is h = inr (is, ok_is undefined v h)

fire_gave : (d : json.Data) (e : Event) → is_fire d ≡ true → fire_found d ≡ Ok e → IsSimple d e
fire_gave d e is h =
    let v = then_gave (payload_found d) _ e h in
    let x = then_gave (at_key (codes "event") text_found d) _ e v.2 in
    let n = then_gave (at_key (codes "fire") node_found d) _ e x.2 in
    let at = at_gave (codes "fire") node_found d n.0 n.1 in
    subst (IsSimple d) (sym (ok_is (fire n.0 x.0 v.0) e n.2))
    (is, (at.0, at.1, node_gave at.0 n.0 at.2), text_at (codes "event") d x.0 x.1, payload_gave (has_data d) d v.0 refl v.1)

simple_cases : (s f : Bool) (d : json.Data) (e : Event) → is_set d ≡ s → is_fire d ≡ f → cond s (set_found d) (cond f (fire_found d) faulty) ≡ Ok e → IsSimple d e
simple_cases true f d e is_s is_f h = set_gave d e is_s h
simple_cases false true d e is_s is_f h = fire_gave d e is_f h
simple_cases false false d e is_s is_f h = let r : ⊥ = cc in absurd r

simple_gave : (d : json.Data) (e : Event) → simple_found d ≡ Ok e → IsSimple d e
unfolding simple_found
simple_gave d e h = simple_cases (is_set d) (is_fire d) d e refl refl h

payload_back : (d : json.Data) (v : Plain) → IsPayload d v → payload_found d ≡ Ok v
payload_back d v (inl h) =
    let m = h.1 in
    let at = at_back (codes "data") (value_at {O = ℕ}) d m.0 m.2.0 m.1 m.2.1 in
    rw (h.0, at, m.2.2) refl
payload_back d v (inr h) = rw (h.0, h.1) refl

simple_back : (d : json.Data) (e : Event) → IsSimple d e → simple_found d ≡ Ok e
unfolding simple_found
simple_back d (set_event f v) h =
    let s = at_back (codes "set") text_found d h.1.0 f h.1.1 (text_back h.1.0 f h.1.2) in
    let t = at_back (codes "to") (value_at {O = ℕ}) d h.2.0 h.2.2.0 h.2.1 h.2.2.1 in
    rw (h.0, s, t, h.2.2.2) refl
simple_back d (fire n x v) h =
    let t = at_back (codes "event") text_found d h.2.0 x h.2.1 (text_back h.2.0 x h.2.2) in
    let k = at_back (codes "fire") node_found d h.1.0 n h.1.1 (node_back h.1.0 n h.1.2) in
    rw (fire_is_no_set d h.0, h.0, payload_back d v h.3, t, k) refl
simple_back d (batch es) h = absurd h

-- items one by one
items_gave : {A : Type 0} (f : json.Data → Found A) (Is : json.Data → A → Type 0) → ((d : json.Data) (x : A) → f d ≡ Ok x → Is d x) → (n : ℕ) (ds : json.Items) (xs : List A) → read_items f n ds ≡ Ok xs → ItemsAre Is ds xs
items_gave f Is gives n json.no_items xs e = subst (ItemsAre Is json.no_items) (sym (ok_is [] xs e)) tt
items_gave f Is gives n (json.item d ds) xs e =
    let x = then_gave (under _ (f d)) _ xs e in
    let more = then_gave (read_items f (n + 1) ds) _ xs x.2 in
    subst (ItemsAre Is (json.item d ds)) (sym (ok_is (x.0 ∷ more.0) xs more.2)) (gives d x.0 (under_gave _ (f d) x.0 x.1), items_gave f Is gives (n + 1) ds more.0 more.1)

items_back : {A : Type 0} (f : json.Data → Found A) (Is : json.Data → A → Type 0) → ((d : json.Data) (x : A) → Is d x → f d ≡ Ok x) → (n : ℕ) (ds : json.Items) (xs : List A) → ItemsAre Is ds xs → read_items f n ds ≡ Ok xs
items_back f Is back n json.no_items [] h = refl
items_back f Is back n json.no_items (x ∷ xs) h = absurd h
items_back f Is back n (json.item d ds) [] h = absurd h
items_back f Is back n (json.item d ds) (x ∷ xs) h = rw (back d x h.0, items_back f Is back (n + 1) ds xs h.1) refl

batch_gave : (d : json.Data) (e : Event) → batch_found d ≡ Ok e → (es : Events) × (e ≡ batch es) × IsBatch d es
batch_gave (json.array ds) e h =
    let list = then_gave (read_items simple_found 0 ds) _ e h in
    (events_of list.0, ok_is (batch (events_of list.0)) e list.2, (list.0, refl, items_gave simple_found IsSimple simple_gave 0 ds list.0 list.1))
batch_gave json.null e h = let r : ⊥ = cc in absurd r
batch_gave (json.boolean b) e h = let r : ⊥ = cc in absurd r
batch_gave (json.number n) e h = let r : ⊥ = cc in absurd r
batch_gave (json.string s) e h = let r : ⊥ = cc in absurd r
batch_gave (json.object ms) e h = let r : ⊥ = cc in absurd r

batch_back : (d : json.Data) (es : Events) → IsBatch d es → batch_found d ≡ Ok (batch es)
batch_back (json.array ds) es h = rw (items_back simple_found IsSimple simple_back 0 ds h.0 h.2, h.1) refl
batch_back json.null es h = absurd h
batch_back (json.boolean b) es h = absurd h
batch_back (json.number n) es h = absurd h
batch_back (json.string s) es h = absurd h
batch_back (json.object ms) es h = absurd h

simple_event : (d : json.Data) (e : Event) → IsSimple d e → IsEvent d e
simple_event d (set_event f v) h = h
simple_event d (fire n x v) h = h
simple_event d (batch es) h = absurd h

event_cases : (b : Bool) (d : json.Data) (e : Event) → is_batch d ≡ b → cond b (at_key (codes "batch") batch_found d) (simple_found d) ≡ Ok e → IsEvent d e
event_cases true d e is h =
    let m = at_gave (codes "batch") batch_found d e h in
    let es = batch_gave m.0 e m.2 in
    subst (IsEvent d) (sym es.1) (is, (m.0, m.1, es.2))
event_cases false d e is h = simple_event d e (simple_gave d e h)

event_gave : (d : json.Data) (e : Event) → event_found d ≡ Ok e → IsEvent d e
unfolding event_found
event_gave d e h = event_cases (is_batch d) d e refl h

event_back : (d : json.Data) (e : Event) → IsEvent d e → event_found d ≡ Ok e
unfolding event_found
event_back d (set_event f v) h = rw (set_is_no_batch d h.0) (simple_back d (set_event f v) h)
event_back d (fire n x v) h = rw (fire_is_no_batch d h.0) (simple_back d (fire n x v) h)
event_back d (batch es) h = rw h.0 (at_back (codes "batch") batch_found d h.1.0 (batch es) h.1.1 (batch_back h.1.0 es h.1.2))

script_gave : (d : json.Data) (es : List Event) → script_found d ≡ Ok es → IsScript d es
script_gave (json.array ds) es h = items_gave event_found IsEvent event_gave 0 ds es h
script_gave json.null es h = let r : ⊥ = cc in absurd r
script_gave (json.boolean b) es h = let r : ⊥ = cc in absurd r
script_gave (json.number n) es h = let r : ⊥ = cc in absurd r
script_gave (json.string s) es h = let r : ⊥ = cc in absurd r
script_gave (json.object ms) es h = let r : ⊥ = cc in absurd r

script_back : (d : json.Data) (es : List Event) → IsScript d es → script_found d ≡ Ok es
script_back (json.array ds) es h = items_back event_found IsEvent event_back 0 ds es h
script_back json.null es h = absurd h
script_back (json.boolean b) es h = absurd h
script_back (json.number n) es h = absurd h
script_back (json.string s) es h = absurd h
script_back (json.object ms) es h = absurd h

named_gave : (es all : List Event) (o : Option (ℕ × Text)) → with_names es o ≡ script all → (o ≡ None) × (es ≡ all)
named_gave es all None h = (refl, cc)
named_gave es all (Some x) h = let r : ⊥ = cc in absurd r

found_gave : (fields : Fields) (d : json.Data) (es : List Event) (f : Found (List Event)) → script_found d ≡ f → of_found fields f ≡ script es → IsScript d es × (first_unknown fields 0 es ≡ None)
found_gave fields d es (Ok xs) is h =
    let n = named_gave xs es (first_unknown fields 0 xs) h in
    (script_gave d es (is ∙ ap Ok n.1), rw (← n.1) n.0)
found_gave fields d es (Err p) is h = let r : ⊥ = cc in absurd r

json_gave : (fields : Fields) (bytes : List ℕ) (es : List Event) (o : Option json.Data) → read_json bytes ≡ o → of_json fields o ≡ script es → Holds fields bytes es
json_gave fields bytes es None is h = let r : ⊥ = cc in absurd r
json_gave fields bytes es (Some d) is h = let f = found_gave fields d es (script_found d) refl h in (d, is, f.0, f.1)

pub reads_held : (fields : Fields) (bytes : List ℕ) (es : List Event) → script_reading fields bytes ≡ script es → Holds fields bytes es
reads_held fields bytes es h = json_gave fields bytes es (read_json bytes) refl h

pub held_reads : (fields : Fields) (bytes : List ℕ) (es : List Event) → Holds fields bytes es → script_reading fields bytes ≡ script es
held_reads fields bytes es h = rw (h.1, script_back h.0 es h.2, h.3) refl
