-- The samples of forms, which each form reads.
use Rattle.std.specs.Prelude.{◌≡◌, ℕ, ◌-◌, false, List, [], length, ℤ, pos, Ok, Some}
use Rattle.log_forms.specs.Stamps.{stamp_at}
use Rattle.log_forms.specs.declared.instants.Assumed.{Assumed}
use Rattle.log_forms.specs.declared.places.Place.TheVariants.{Front}
use Rattle.log_forms.specs.declared.stamps.Stamp.{Stamp}
use Rattle.log_forms.specs.Forms.{form_name, form_named, name_in, sample_of}
use Rattle.log_forms.specs.declared.names.TheConstants.{FORMS}
use Rattle.log_forms.specs.declared.names.FormName.{FormName}
use Rattle.log_forms.specs.declared.names.FormName.TheVariants.{Rfc3339, Rfc3339Comma, Journald, Rfc5424, Rfc3164, Git, Postgres, Clf, GitDefault, Date}
use Rattle.log_forms.specs.declared.names.FormName.TheVariants.{Rfc2822, Haproxy, NginxError, LocalComma, Local, TwoSpaces, ApacheError, Redis, Tomcat, Erlang}
use Rattle.log_forms.specs.declared.names.FormName.TheVariants.{Bgl, Syslog, Klog, Android, Unix, UnixMs, UnixUs, UnixNs, Mysql56, Hdfs}
use Rattle.log_forms.specs.declared.names.FormName.TheVariants.{Spark, SyslogYear, Modsecurity, Php, HourOffset, CiscoUtc, Cisco, Asa, Nxos}
use Rattle.log_forms.specs.declared.names.FormName.TheVariants.{Django, Splunk, Clickhouse, Suricata, Redis28, Glog}

-- what is assumed of a sample: half past five ahead of UTC, and the year 2024
abbrev pub sample_assumed : Assumed
sample_assumed = record { offset = Some (pos 19_800); year = Some (pos 2024); month = 0 }

-- where the stamp of a sample begins, and its instant: 12:00 of 29 February 2024 at +05:30, or in UTC where the sample says so
abbrev pub sample_stamp : FormName → ℕ × ℤ
sample_stamp Rfc3339 = (0, pos 1_709_188_200_500_000_000)
sample_stamp Rfc3339Comma = (0, pos 1_709_188_200_500_000_000)
sample_stamp Journald = (0, pos 1_709_188_200_000_000_000)
sample_stamp Rfc5424 = (6, pos 1_709_208_000_003_000_000)
sample_stamp Rfc3164 = (4, pos 1_709_188_200_000_000_000)
sample_stamp Git = (0, pos 1_709_188_200_000_000_000)
sample_stamp Postgres = (0, pos 1_709_208_000_123_000_000)
sample_stamp Clf = (0, pos 1_709_188_200_000_000_000)
sample_stamp GitDefault = (0, pos 1_709_188_200_000_000_000)
sample_stamp Date = (0, pos 1_709_208_000_000_000_000)
sample_stamp Rfc2822 = (0, pos 1_709_188_200_000_000_000)
sample_stamp Haproxy = (0, pos 1_709_188_200_123_000_000)
sample_stamp NginxError = (0, pos 1_709_188_200_000_000_000)
sample_stamp LocalComma = (0, pos 1_709_188_200_123_000_000)
sample_stamp Local = (0, pos 1_709_188_200_123_000_000)
sample_stamp TwoSpaces = (0, pos 1_709_188_200_000_000_000)
sample_stamp ApacheError = (0, pos 1_709_188_200_123_456_000)
sample_stamp Redis = (0, pos 1_709_188_200_123_000_000)
sample_stamp Tomcat = (0, pos 1_709_188_200_123_000_000)
sample_stamp Erlang = (0, pos 1_709_188_200_000_000_000)
sample_stamp Bgl = (0, pos 1_709_188_200_123_456_000)
sample_stamp Syslog = (0, pos 1_709_188_200_000_000_000)
sample_stamp Klog = (1, pos 1_709_188_200_123_456_000)
sample_stamp Android = (0, pos 1_709_188_200_123_000_000)
sample_stamp SyslogYear = (0, pos 1_709_188_200_000_000_000)
sample_stamp Modsecurity = (0, pos 1_709_188_200_123_456_000)
sample_stamp Php = (0, pos 1_709_208_000_000_000_000)
sample_stamp HourOffset = (0, pos 1_709_218_800_123_000_000)
sample_stamp CiscoUtc = (1, pos 1_709_208_000_123_000_000)
sample_stamp Cisco = (1, pos 1_709_188_200_123_000_000)
sample_stamp Asa = (0, pos 1_709_188_200_000_000_000)
sample_stamp Nxos = (0, pos 1_709_188_200_000_000_000)
sample_stamp Django = (0, pos 1_709_188_200_000_000_000)
sample_stamp Splunk = (0, pos 1_709_188_200_123_000_000)
sample_stamp Clickhouse = (0, pos 1_709_188_200_123_456_000)
sample_stamp Suricata = (0, pos 1_709_188_200_123_456_000)
sample_stamp Redis28 = (0, pos 1_709_188_200_123_000_000)
sample_stamp Glog = (1, pos 1_709_188_200_123_456_000)
sample_stamp Unix = (0, pos 1_709_188_200_123_000_000)
sample_stamp UnixMs = (0, pos 1_709_188_200_123_000_000)
sample_stamp UnixUs = (0, pos 1_709_188_200_123_456_000)
sample_stamp UnixNs = (0, pos 1_709_188_200_123_456_789)
sample_stamp Mysql56 = (0, pos 1_709_188_200_000_000_000)
sample_stamp Hdfs = (0, pos 1_709_188_200_000_000_000)
sample_stamp Spark = (0, pos 1_709_188_200_000_000_000)

-- the stamp of a sample reaches from there to its end
abbrev pub stamp_from : ℕ × ℤ → List ℕ → Stamp
stamp_from read text = record { instant = read.1; start = read.0; length = length text - read.0; is_zoned = false }

-- each form reads its sample whole, as the instant that the table says
abbrev pub SamplesAreRead : Type 0
SamplesAreRead =
    (name : FormName)
    → stamp_at (form_named name) Front [] sample_assumed (sample_of name) ≡ Ok (stamp_from (sample_stamp name) (sample_of name))

-- the name of each form finds that form
abbrev pub NamesFindTheirForms : Type 0
NamesFindTheirForms = (name : FormName) → name_in FORMS (form_name name) ≡ Some name
