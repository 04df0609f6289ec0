-- Examples of places, of offsets and of time zones, which say in values what definitions say in steps.
use Rattle.std.specs.Prelude.{◌≡◌, ℕ, true, List, [], ◌∷◌, codes, drop, pos, Ok, Some, None}
use Rattle.std.specs.List.{list_all}
use Rattle.log_forms.specs.Ends.{begins_zone}
use Rattle.log_forms.specs.Forms.{form_named}
use Rattle.log_forms.specs.Json.{member_of}
use Rattle.log_forms.specs.Laws.{whole_stamp}
use Rattle.log_forms.specs.Places.{text_at}
use Rattle.log_forms.specs.Samples.{sample_assumed}
use Rattle.log_forms.specs.Stamps.{stamp_at}
use Rattle.log_forms.specs.declared.names.TheConstants.{CHOSEN, FORMS}
use Rattle.log_forms.specs.declared.names.FormName.TheVariants.{Hdfs, Mysql56, Rfc3339, Spark}
use Rattle.log_forms.specs.declared.places.Place.TheVariants.{Field, Front}

-- a member of an object is the first of its name there: none of an object or an array inside, none of an array around it, and no text that
-- spells one. Blanks and a quote before the value are left out. A path goes through objects
pub record MembersAreFound : Type 0 where
  pub inner : member_of (codes "t") (codes "{\"a\":{\"t\":1},\"t\":2}") ≡ Some (codes "2}")
  pub array : member_of (codes "t") (codes "{\"a\":[{\"t\":1}],\"t\":2}") ≡ Some (codes "2}")
  pub around : member_of (codes "t") (codes "[{\"t\":1}]") ≡ None
  pub text : member_of (codes "t") (codes "{\"a\":\"\\\"t\\\":1\",\"t\":2}") ≡ Some (codes "2}")
  pub quote : member_of (codes "t") (codes "{\"a\":\"\\\"\",\"t\":2}") ≡ Some (codes "2}")
  pub first : member_of (codes "t") (codes "{\"t\":1,\"t\":2}") ≡ Some (codes "1,\"t\":2}")
  pub blanks : member_of (codes "t") (codes "{ \"t\" : \"x\"}") ≡ Some (codes "x\"}")
  pub longer : member_of (codes "t") (codes "{\"tt\":1,\"T\":2}") ≡ None
  pub path : member_of (codes "a.t") (codes "{\"t\":1,\"a\":{\"t\":2}}") ≡ Some (codes "2}}")
  pub outside : member_of (codes "a.t") (codes "{\"a\":{\"b\":1},\"t\":2}") ≡ None

-- fields are counted from 1, and blanks in a row separate two
pub record FieldsAreCounted : Type 0 where
  pub one : text_at (Field 1) [] (codes "ab c  d") ≡ Some (codes "ab c  d")
  pub two : text_at (Field 2) [] (codes "ab c  d") ≡ Some (codes "c  d")
  pub three : text_at (Field 3) [] (codes "ab c  d") ≡ Some (codes "d")
  pub four : text_at (Field 4) [] (codes "ab c  d") ≡ None

-- an offset of almost a day is read, east and west
pub record OffsetsOfAlmostADay : Type 0 where
  pub east : stamp_at (form_named Rfc3339) Front [] sample_assumed (codes "2024-02-29T12:00:00+23:59")
      ≡ Ok (whole_stamp (pos 1_709_121_660_000_000_000) (codes "2024-02-29T12:00:00+23:59"))
  pub west : stamp_at (form_named Rfc3339) Front [] sample_assumed (codes "2024-02-29T12:00:00-23:59")
      ≡ Ok (whole_stamp (pos 1_709_294_340_000_000_000) (codes "2024-02-29T12:00:00-23:59"))

-- the forms with years of two digits are not chosen by the lines of a log
abbrev pub ShortYearsAreNamed : Type 0
ShortYearsAreNamed = drop CHOSEN FORMS ≡ Mysql56 ∷ Hdfs ∷ Spark ∷ []

-- time zones behind a space
abbrev pub zone_examples : List (List ℕ)
zone_examples =
    codes " UTC" ∷ codes " GMT" ∷ codes " PST" ∷ codes " PDT" ∷ codes " EST" ∷ codes " EDT" ∷ codes " CST" ∷ codes " CET" ∷ codes " CEST" ∷
    codes " JST" ∷ codes " IST" ∷ codes " (PST)" ∷ codes " +0530" ∷ codes " AM" ∷ codes " pm" ∷ []

abbrev pub ZonesAreKnown : Type 0
ZonesAreKnown = list_all begins_zone zone_examples ≡ true
