use Rattle.std.proofs.Common.{refl}
use Rattle.calendar_values.specs.Calendar.{day_of_ordinal, days_from_1970, days_in_months, days_of_years, days_until_1970, last_month_begun}
use Rattle.calendar_values.specs.Calendar.{month_of_ordinal, ordinal_of, year_after_1970, year_before_1970, year_of, year_start}
use Rattle.calendar_values.specs.Constructors.{iso_week_date}
use Rattle.calendar_values.specs.WallClock.{wall_time}
use Rattle.calendar_values.specs.Weeks.{count_weekday, weekday_of}
use Rattle.format_descriptions.specs.ClockValues.{clock_at, clock_of_half, time_of_parts}
use Rattle.format_descriptions.specs.InstantValues.{counted_instant, instant_of_counts, wrong_instant}
use Rattle.format_descriptions.specs.Names.{month_of_number, weekday_of_number}
use Rattle.format_descriptions.specs.OffsetValues.{offset_at, offset_of_parts}
use Rattle.format_descriptions.specs.Read.{agrees, component_at, item_at, read_from, with_part}
use Rattle.format_descriptions.specs.Reading.{counted_at, decimal_at, digits_on, four_at, fraction_at, letter_at, month_at, more_at, past_digits}
use Rattle.format_descriptions.specs.Reading.{period_at, sign_at, signed_century_at, signed_hours_at, signed_year_at, six_at, three_at}
use Rattle.format_descriptions.specs.Reading.{three_digits_at, two_at, unix_at, weekday_at, weekday_number_at, word_at, year_since_at}
use Rattle.format_descriptions.specs.Values.{date_of_parts, day_in_year, iso_day, month_day, week_day, week_ordinal, wrong_date, wrong_day}
use Rattle.format_descriptions.specs.Values.{wrong_week, wrong_year, year_day}
use Rattle.format_descriptions.specs.Written.{hour_12, period_text}
use Rattle.log_forms.specs.Ends.{is_apart}
use Rattle.log_forms.specs.Fronts.{last_word}
use Rattle.log_forms.specs.Instants.{instant_of_parts, with_year}
use Rattle.log_forms.specs.Json.{member_at, value_of}
use Rattle.log_forms.specs.Marks.{bytes_at, past_blanks}
use Rattle.log_forms.specs.Places.{behind_text, field_at, text_at}
use Rattle.log_forms.specs.Stamps.{stamp_at}
use Rattle.offset_times.specs.Local.{instant_of}
use Rattle.rfc3339.specs.Reading.{digit_at, digits_at, mark_at, two_digits_at, year_at}
use Rattle.utc_times.specs.UnixTime.{instant_or_refusal}
use Rattle.log_forms.specs.declared.names.FormName.TheVariants.{Rfc3339, Rfc3339Comma, Journald, Rfc5424, Rfc3164, Git, Postgres, Clf, GitDefault, Date}
use Rattle.log_forms.specs.declared.names.FormName.TheVariants.{Rfc2822, Haproxy, NginxError, LocalComma, Local, TwoSpaces, ApacheError, Redis, Tomcat, Erlang}
use Rattle.log_forms.specs.declared.names.FormName.TheVariants.{Bgl, Syslog, Klog, Android, Unix, UnixMs, UnixUs, UnixNs, Mysql56, Hdfs}
use Rattle.log_forms.specs.declared.names.FormName.TheVariants.{Spark, SyslogYear, Modsecurity, Php, HourOffset, CiscoUtc, Cisco, Asa, Nxos}
use Rattle.log_forms.specs.declared.names.FormName.TheVariants.{Django, Splunk, Clickhouse, Suricata, Redis28, Glog}
use Rattle.log_forms.proofs.laws.samples_are_read.Goals as goal

pub returns : goal.returns
unfolding day_of_ordinal days_from_1970 days_in_months days_of_years days_until_1970 last_month_begun month_of_ordinal ordinal_of year_after_1970
    year_before_1970 year_of year_start iso_week_date wall_time count_weekday weekday_of clock_at clock_of_half time_of_parts counted_instant
    instant_of_counts wrong_instant month_of_number weekday_of_number offset_at offset_of_parts agrees component_at item_at read_from with_part
    counted_at decimal_at digits_on four_at fraction_at letter_at month_at more_at past_digits period_at sign_at signed_century_at signed_hours_at
    signed_year_at six_at three_at three_digits_at two_at unix_at weekday_at weekday_number_at word_at year_since_at date_of_parts day_in_year iso_day
    month_day week_day week_ordinal wrong_date wrong_day wrong_week wrong_year year_day hour_12 period_text is_apart instant_of_parts
    with_year member_at value_of bytes_at past_blanks behind_text field_at text_at last_word stamp_at instant_of digit_at digits_at mark_at two_digits_at
    year_at instant_or_refusal
returns c Rfc3339 = refl
returns c Rfc3339Comma = refl
returns c Journald = refl
returns c Rfc5424 = refl
returns c Rfc3164 = refl
returns c Git = refl
returns c Postgres = refl
returns c Clf = refl
returns c GitDefault = refl
returns c Date = refl
returns c Rfc2822 = refl
returns c Haproxy = refl
returns c NginxError = refl
returns c LocalComma = refl
returns c Local = refl
returns c TwoSpaces = refl
returns c ApacheError = refl
returns c Redis = refl
returns c Tomcat = refl
returns c Erlang = refl
returns c Bgl = refl
returns c Syslog = refl
returns c Klog = refl
returns c Android = refl
returns c SyslogYear = refl
returns c Modsecurity = refl
returns c Php = refl
returns c HourOffset = refl
returns c CiscoUtc = refl
returns c Cisco = refl
returns c Asa = refl
returns c Nxos = refl
returns c Django = refl
returns c Splunk = refl
returns c Clickhouse = refl
returns c Suricata = refl
returns c Redis28 = refl
returns c Glog = refl
returns c Unix = refl
returns c UnixMs = refl
returns c UnixUs = refl
returns c UnixNs = refl
returns c Mysql56 = refl
returns c Hdfs = refl
returns c Spark = refl
