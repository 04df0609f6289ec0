-- What a form lacks.
use Rattle.std.specs.Prelude.{◌||◌, Bool, true, false, not, List, [], ◌∷◌}
use Rattle.format_descriptions.specs.declared.component.Component.{Component}
use Rattle.format_descriptions.specs.declared.component.Component.TheVariants.{OffsetHour, OffsetWord, UnixTimestamp, Year, YearCentury, YearSince, YearSix}
use Rattle.format_descriptions.specs.declared.item.Item.{Item}
use Rattle.format_descriptions.specs.declared.item.Item.TheVariants.{Part}

-- whether a component gives an offset or a Unix timestamp
abbrev pub is_offset : Component → Bool
is_offset (OffsetHour sign padding) = true
is_offset (OffsetWord word case) = true
is_offset (UnixTimestamp precision sign) = true
is_offset _ = false

-- whether a component gives a whole year or a Unix timestamp
abbrev pub is_year : Component → Bool
is_year (Year base sign padding range) = true
is_year (YearCentury base sign padding range) = true
is_year (YearSince first) = true
is_year (YearSix base) = true
is_year (UnixTimestamp precision sign) = true
is_year _ = false

-- the same of an item
abbrev pub gives_offset : Item → Bool
gives_offset (Part component) = is_offset component
gives_offset _ = false

abbrev pub gives_year : Item → Bool
gives_year (Part component) = is_year component
gives_year _ = false

-- whether one of the items gives an offset or a Unix timestamp
unfoldable pub any_offset : List Item → Bool
any_offset [] = false
any_offset (item ∷ items) = gives_offset item || any_offset items

-- whether one of the items gives a whole year or a Unix timestamp
unfoldable pub any_year : List Item → Bool
any_year [] = false
any_year (item ∷ items) = gives_year item || any_year items

-- whether no item gives an offset or a Unix timestamp
abbrev pub lacks_offset : List Item → Bool
lacks_offset items = not (any_offset items)

-- whether no item gives a whole year or a Unix timestamp
abbrev pub lacks_year : List Item → Bool
lacks_year items = not (any_year items)
