use Rattle.std.proofs.Common.{◌≡◌, List, Option, map, string_bytes, inl, sym, subst, ◌∙◌}
use Rattle.celldb.specs.Places.{AreFiles, IsDatabase}
use Rattle.celldb.proofs.PlaceLaws.{database-of, no-database, no-files}
use Rattle.celldb.proofs.call.places_of.Goals as goal

pub returns-in-Ok-clause-db : goal.returns-in-Ok-clause-db
returns-in-Ok-clause-db c = database-of (map string_bytes c.args.words.now) c.in-Ok.command c.places_in.result.db c.in-Ok.ensures.found c.places_in.ensures.db

pub returns-in-Ok-clause-to : goal.returns-in-Ok-clause-to
returns-in-Ok-clause-to c = inl (c.in-Ok.command, c.in-Ok.ensures.found, c.places_in.ensures.to)

pub returns-in-Err-Usage-clause-db : goal.returns-in-Err-Usage-clause-db
returns-in-Err-Usage-clause-db c = subst (IsDatabase (map string_bytes c.args.words.now)) (sym c.no_places.ensures.db)
    (no-database (map string_bytes c.args.words.now) c.in-Err-Usage.field-0 c.in-Err-Usage.ensures.refused (λ e. let same = sym c.in-Err-Usage.field-0-is ∙ e in cc))

pub returns-in-Err-Usage-clause-to : goal.returns-in-Err-Usage-clause-to
returns-in-Err-Usage-clause-to c = subst (AreFiles (map string_bytes c.args.words.now)) (sym c.no_places.ensures.to)
    (no-files (map string_bytes c.args.words.now) c.in-Err-Usage.field-0 c.in-Err-Usage.ensures.refused (λ e. let same = sym c.in-Err-Usage.field-0-is ∙ e in cc))

pub returns-in-Err-BadValue-clause-db : goal.returns-in-Err-BadValue-clause-db
returns-in-Err-BadValue-clause-db c = subst (IsDatabase (map string_bytes c.args.words.now)) (sym c.no_places-in-Err-BadValue.ensures.db)
    (no-database (map string_bytes c.args.words.now) c.in-Err-BadValue.field-0 c.in-Err-BadValue.ensures.refused (λ e. let same = sym c.in-Err-BadValue.field-0-is ∙ e in cc))

pub returns-in-Err-BadValue-clause-to : goal.returns-in-Err-BadValue-clause-to
returns-in-Err-BadValue-clause-to c = subst (AreFiles (map string_bytes c.args.words.now)) (sym c.no_places-in-Err-BadValue.ensures.to)
    (no-files (map string_bytes c.args.words.now) c.in-Err-BadValue.field-0 c.in-Err-BadValue.ensures.refused (λ e. let same = sym c.in-Err-BadValue.field-0-is ∙ e in cc))
