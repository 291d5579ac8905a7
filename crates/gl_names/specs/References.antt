-- The names of the character references, each with its code point.
use Rattle.std.specs.Prelude.{[], ◌∷◌, codes}
use Rattle.gl_names.specs.Table.{Rows}

unfoldable pub reference_rows : Rows
reference_rows =
    (codes "amp", 38) ∷ (codes "lt", 60) ∷ (codes "gt", 62) ∷ (codes "quot", 34) ∷ (codes "apos", 39) ∷
    (codes "nbsp", 160) ∷ (codes "iexcl", 161) ∷ (codes "cent", 162) ∷ (codes "pound", 163) ∷
    (codes "curren", 164) ∷ (codes "yen", 165) ∷ (codes "brvbar", 166) ∷ (codes "sect", 167) ∷
    (codes "uml", 168) ∷ (codes "copy", 169) ∷ (codes "ordf", 170) ∷ (codes "laquo", 171) ∷ (codes "not", 172) ∷
    (codes "shy", 173) ∷ (codes "reg", 174) ∷ (codes "macr", 175) ∷ (codes "deg", 176) ∷ (codes "plusmn", 177) ∷
    (codes "sup2", 178) ∷ (codes "sup3", 179) ∷ (codes "acute", 180) ∷ (codes "micro", 181) ∷
    (codes "para", 182) ∷ (codes "middot", 183) ∷ (codes "cedil", 184) ∷ (codes "sup1", 185) ∷
    (codes "ordm", 186) ∷ (codes "raquo", 187) ∷ (codes "frac14", 188) ∷ (codes "frac12", 189) ∷
    (codes "frac34", 190) ∷ (codes "iquest", 191) ∷ (codes "Agrave", 192) ∷ (codes "Aacute", 193) ∷
    (codes "Acirc", 194) ∷ (codes "Atilde", 195) ∷ (codes "Auml", 196) ∷ (codes "Aring", 197) ∷
    (codes "AElig", 198) ∷ (codes "Ccedil", 199) ∷ (codes "Egrave", 200) ∷ (codes "Eacute", 201) ∷
    (codes "Ecirc", 202) ∷ (codes "Euml", 203) ∷ (codes "Igrave", 204) ∷ (codes "Iacute", 205) ∷
    (codes "Icirc", 206) ∷ (codes "Iuml", 207) ∷ (codes "ETH", 208) ∷ (codes "Ntilde", 209) ∷
    (codes "Ograve", 210) ∷ (codes "Oacute", 211) ∷ (codes "Ocirc", 212) ∷ (codes "Otilde", 213) ∷
    (codes "Ouml", 214) ∷ (codes "times", 215) ∷ (codes "Oslash", 216) ∷ (codes "Ugrave", 217) ∷
    (codes "Uacute", 218) ∷ (codes "Ucirc", 219) ∷ (codes "Uuml", 220) ∷ (codes "Yacute", 221) ∷
    (codes "THORN", 222) ∷ (codes "szlig", 223) ∷ (codes "agrave", 224) ∷ (codes "aacute", 225) ∷
    (codes "acirc", 226) ∷ (codes "atilde", 227) ∷ (codes "auml", 228) ∷ (codes "aring", 229) ∷
    (codes "aelig", 230) ∷ (codes "ccedil", 231) ∷ (codes "egrave", 232) ∷ (codes "eacute", 233) ∷
    (codes "ecirc", 234) ∷ (codes "euml", 235) ∷ (codes "igrave", 236) ∷ (codes "iacute", 237) ∷
    (codes "icirc", 238) ∷ (codes "iuml", 239) ∷ (codes "eth", 240) ∷ (codes "ntilde", 241) ∷
    (codes "ograve", 242) ∷ (codes "oacute", 243) ∷ (codes "ocirc", 244) ∷ (codes "otilde", 245) ∷
    (codes "ouml", 246) ∷ (codes "divide", 247) ∷ (codes "oslash", 248) ∷ (codes "ugrave", 249) ∷
    (codes "uacute", 250) ∷ (codes "ucirc", 251) ∷ (codes "uuml", 252) ∷ (codes "yacute", 253) ∷
    (codes "thorn", 254) ∷ (codes "yuml", 255) ∷ []
