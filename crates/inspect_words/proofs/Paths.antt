-- The path that matches have, and that words which ask for one ask for no mode.
use Rattle.std.proofs.Common.{◌≡◌, List, Option, Some, None, Bool, true, codes, refl, sym, ap, ◌∙◌, subst, subst₂, option_map}
use Rattle.std.specs.Str.{bytes_eq}
use Rattle.clap.specs.Words.{Row, Text, first_of}
use Rattle.inspect_words.specs.Modes.{command_mode, command_path, path_in, mode_in}

pub path_found : {B : Type 0} (f : B → Text) (r : B → List Row) (o : Option B) (n : Text) (rows : List Row) (v : Option Text)
    → Some n ≡ option_map f o → Some rows ≡ option_map (λ (p : Text × List Row). p.1) (option_map (λ b. (f b, r b)) o) → n ≡ codes "store"
    → v ≡ first_of (codes "PATH") rows → v ≡ path_in (option_map (λ b. (f b, r b)) o)
path_found f r None n rows v name found store first = absurd cc
path_found f r (Some b) n rows v name found store first =
    let named : codes "store" ≡ f b = cc in
    let has : rows ≡ r b = cc in
    first ∙ subst (λ t. first_of (codes "PATH") rows ≡ command_path t (r b)) named (ap (first_of (codes "PATH")) has)
