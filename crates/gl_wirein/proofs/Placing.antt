-- Names by their places among the symbols.
use Rattle.std.proofs.Common.{◌≡◌, suc, List, [], ◌∷◌, ◌++◌, Bool, true, false, ◌||◌, Option, Some, if◌then◌else◌, map, refl, sym, ap, subst, ◌∙◌, slice_get}
use Rattle.std.specs.Str.{bytes_eq, chars}
use Rattle.std.proofs.lemmas.Slice.Eq.{bytes_eq-Decides}
use Rattle.serde_json.specs.Data as json
use Rattle.gl_base.specs.Answers.{◌>>=◌}
use Rattle.gl_base.specs.Names.{has_text}
use Rattle.gl_base.specs.Reading.{read_all}
use Rattle.gl_base.specs.Texts.{Text, bytes_of}
use Rattle.gl_ast.specs.Template.{Body}
use Rattle.gl_show.specs.Spellable.{AreFreeNames}
use Rattle.gl_wire.specs.Json.{text_json, texts_json, place_json, places_json}
use Rattle.gl_wire.specs.Symbols.{with_name, with_names, place_of, symbols_of, body_mentions}
use Rattle.gl_wire.specs.WireOf.{places_of}
use Rattle.gl_wirein.specs.Pieces.{text_in, texts_in, symbol_in, symbols_in}
use Rattle.gl_wirein.proofs.Texts.{Returns, name_returns, list_read}

-- the texts as JSON gives them back
abbrev pub rounded : List Text → List Text
rounded ss = map (λ s. chars (bytes_of s)) ss

symbols_rounded : (ss : List Text) → read_all text_in (map text_json ss) ≡ Some (rounded ss)
symbols_rounded [] = refl
symbols_rounded (s ∷ ss) = rw (symbols_rounded ss) refl

pub symbols_read : (ss : List Text) → texts_in (texts_json ss) ≡ Some (rounded ss)
symbols_read ss = ap (λ (o : Option (List json.Data)). o >>= λ ds. read_all text_in ds) (list_read (map text_json ss)) ∙ symbols_rounded ss

-- each text stands among the symbols
abbrev pub AllIn : List Text → List Text → Type 0
AllIn symbols [] = Unit {0}
AllIn symbols (n ∷ ns) = (has_text n symbols ≡ true) × AllIn symbols ns

pub in_front : (symbols xs ys : List Text) → AllIn symbols (xs ++ ys) → AllIn symbols xs
in_front symbols [] ys h = tt
in_front symbols (x ∷ xs) ys h = (h.0, in_front symbols xs ys h.1)

pub in_back : (symbols xs ys : List Text) → AllIn symbols (xs ++ ys) → AllIn symbols ys
in_back symbols [] ys h = h
in_back symbols (x ∷ xs) ys h = in_back symbols xs ys h.1

in_both : (symbols xs ys : List Text) → AllIn symbols xs → AllIn symbols ys → AllIn symbols (xs ++ ys)
in_both symbols [] ys a b = b
in_both symbols (x ∷ xs) ys a b = (a.0, in_both symbols xs ys a.1 b)

pub scope_in : (symbols scope ns : List Text) → AllIn symbols scope → AllIn symbols ns → AllIn symbols (with_names scope ns)
scope_in symbols scope [] a b = a
scope_in symbols scope (n ∷ ns) a b = scope_in symbols (with_name scope n) ns (name_case (has_text n scope)) b.1
  where
    name_case : (t : Bool) → AllIn symbols (if t then scope else scope ++ n ∷ [])
    name_case true = a
    name_case false = in_both symbols scope (n ∷ []) a (b.0, tt)

pub known_in : (symbols scope : List Text) (n : Text) → has_text n scope ≡ true → AllIn symbols scope → has_text n symbols ≡ true
known_in symbols [] n h a = cc
known_in symbols (m ∷ scope) n h a = first_case (bytes_eq n m) refl (λ k. known_in symbols scope n k a.1) h
  where
    first_case : (t : Bool) → bytes_eq n m ≡ t → (has_text n scope ≡ true → has_text n symbols ≡ true) → (t || has_text n scope) ≡ true → has_text n symbols ≡ true
    first_case true e more k = let same : m ≡ n = sym ((bytes_eq-Decides n m).0 e) in subst (λ (x : Text). has_text x symbols ≡ true) same a.0
    first_case false e more k = more k

-- the symbol at the place of a name is the name
place_found : (ss : List Text) (n : Text) → has_text n ss ≡ true → slice_get (rounded ss) (place_of ss n) ≡ Some (chars (bytes_of n))
place_found [] n h = cc
place_found (s ∷ ss) n h = first_case (bytes_eq n s) refl (λ k. place_found ss n k) h
  where
    first_case : (t : Bool) → bytes_eq n s ≡ t → (has_text n ss ≡ true → slice_get (rounded ss) (place_of ss n) ≡ Some (chars (bytes_of n))) → (t || has_text n ss) ≡ true → slice_get (rounded (s ∷ ss)) (if t then 0 else suc (place_of ss n)) ≡ Some (chars (bytes_of n))
    first_case true e more k = ap (λ (x : Text). Some (chars (bytes_of x))) (sym ((bytes_eq-Decides n s).0 e))
    first_case false e more k = more k

pub symbol_read : (ss : List Text) (n : Text) → has_text n ss ≡ true → Returns n → symbol_in (rounded ss) (place_json (place_of ss n)) ≡ Some n
symbol_read ss n h r = place_found ss n h ∙ ap Some r

places_read : (ss ns : List Text) → AreFreeNames ns → AllIn ss ns → read_all (symbol_in (rounded ss)) (map place_json (places_of ss ns)) ≡ Some ns
places_read ss [] f h = refl
places_read ss (n ∷ ns) f h = rw (symbol_read ss n h.0 (name_returns n f.0.0), places_read ss ns f.1 h.1) refl

pub params_read : (ss ns : List Text) → AreFreeNames ns → AllIn ss ns → symbols_in (rounded ss) (places_json (places_of ss ns)) ≡ Some ns
params_read ss ns f h = ap (λ (o : Option (List json.Data)). o >>= λ ds. read_all (symbol_in (rounded ss)) ds) (list_read (map place_json (places_of ss ns))) ∙ places_read ss ns f h

-- the symbols of a template are all that it mentions
text_itself : (n : Text) → bytes_eq n n ≡ true
text_itself n = (bytes_eq-Decides n n).1 refl

has_front : (n : Text) (xs ys : List Text) → has_text n xs ≡ true → has_text n (xs ++ ys) ≡ true
has_front n [] ys h = cc
has_front n (x ∷ xs) ys h = first_case (bytes_eq n x) (λ k. has_front n xs ys k) h
  where
    first_case : (t : Bool) → (has_text n xs ≡ true → has_text n (xs ++ ys) ≡ true) → (t || has_text n xs) ≡ true → (t || has_text n (xs ++ ys)) ≡ true
    first_case true more k = refl
    first_case false more k = more k

has_last : (n : Text) (xs : List Text) → has_text n (xs ++ n ∷ []) ≡ true
has_last n [] = rw (text_itself n) refl
has_last n (x ∷ xs) = first_case (bytes_eq n x) (has_last n xs)
  where
    first_case : (t : Bool) → has_text n (xs ++ n ∷ []) ≡ true → (t || has_text n (xs ++ n ∷ [])) ≡ true
    first_case true more = refl
    first_case false more = more

stays_one : (n m : Text) (ns : List Text) → has_text n ns ≡ true → has_text n (with_name ns m) ≡ true
stays_one n m ns h = name_case (has_text m ns)
  where
    name_case : (t : Bool) → has_text n (if t then ns else ns ++ m ∷ []) ≡ true
    name_case true = h
    name_case false = has_front n ns (m ∷ []) h

stays : (n : Text) (ns ms : List Text) → has_text n ns ≡ true → has_text n (with_names ns ms) ≡ true
stays n ns [] h = h
stays n ns (m ∷ ms) h = stays n (with_name ns m) ms (stays_one n m ns h)

noted : (n : Text) (ns : List Text) → has_text n (with_name ns n) ≡ true
noted n ns = name_case (has_text n ns) refl
  where
    name_case : (t : Bool) → has_text n ns ≡ t → has_text n (if t then ns else ns ++ n ∷ []) ≡ true
    name_case true e = e
    name_case false e = has_last n ns

all_noted : (ns ms : List Text) → AllIn (with_names ns ms) ms
all_noted ns [] = tt
all_noted ns (m ∷ ms) = (stays m (with_name ns m) ms (noted m ns), all_noted (with_name ns m) ms)

pub mentions_in : (b : Body) → AllIn (symbols_of b) (body_mentions b)
mentions_in b = all_noted [] (body_mentions b)
