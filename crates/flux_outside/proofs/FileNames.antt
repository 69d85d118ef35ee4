-- Files by their names, as a map and as a list.
use Rattle.std.proofs.Common.{ℕ, ◌≡◌, ◌∙◌, Bool, true, false, cond, List, [], ◌∷◌, map, refl, ap, Some, Option, option_map, string_bytes}
use Rattle.std.specs.BTreeMap.{BTreeMap, get_by_text}
use Rattle.std.specs.Map.{lookup}
use Rattle.std.specs.Ordering.{is_eq, nat_cmp}
use Rattle.std.specs.Cmp.Lexicographic.{slice_cmp}
use Rattle.std.specs.Prelude.{String, Vec}
use Rattle.std.specs.declared.alloc.Global.{Global}
use Rattle.flux_outside.specs.Memory.{file_of, names}

found : (t : Bool) (x : Vec ℕ Global) (more : Option (Vec ℕ Global)) → option_map (λ v. v.items) (cond t (Some x) more) ≡ cond t (Some x.items) (option_map (λ v. v.items) more)
found true x more = refl
found false x more = refl

looked_up : (name : List ℕ) (es : List (String Global × Vec ℕ Global))
    → option_map (λ v. v.items) (lookup (λ k. is_eq (slice_cmp nat_cmp name (string_bytes k))) es) ≡ names (map file_of es) name
looked_up name [] = refl
looked_up name (e ∷ es) =
    found (is_eq (slice_cmp nat_cmp name (string_bytes e.0))) e.1 (lookup (λ k. is_eq (slice_cmp nat_cmp name (string_bytes k))) es)
    ∙ ap (cond (is_eq (slice_cmp nat_cmp name (string_bytes e.0))) (Some e.1.items)) (looked_up name es)

-- what a name holds is what the map has at it
pub names_is : (m : BTreeMap (String Global) (Vec ℕ Global)) (name : List ℕ) → option_map (λ v. v.items) (get_by_text m name) ≡ names (map file_of m.entries) name
names_is m name = looked_up name m.entries
