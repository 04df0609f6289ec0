-- The forms of stamps by their names: the items of each, what is before them, and how many digits are counted.
use Rattle.std.specs.Prelude.{ℕ, List, [], ◌∷◌, codes, if◌then◌else◌, Option, Some, None}
use Rattle.std.specs.Str.{bytes_eq}
use Rattle.format_descriptions.specs.declared.item.Item.{Item}
use Rattle.log_forms.specs.declared.form.Form.{Form}
use Rattle.log_forms.specs.declared.names.FormName.{FormName}
use Rattle.log_forms.specs.declared.names.FormName.TheVariants.{Rfc3339, Rfc3339Comma, Journald, Rfc5424, Rfc3164, Git, Postgres, Clf, GitDefault, Date}
use Rattle.log_forms.specs.declared.names.FormName.TheVariants.{Rfc2822, Haproxy, NginxError, LocalComma, Local, TwoSpaces, ApacheError, Redis, Tomcat, Erlang}
use Rattle.log_forms.specs.declared.names.FormName.TheVariants.{Bgl, Syslog, Klog, Android, Unix, UnixMs, UnixUs, UnixNs, Mysql56, Hdfs}
use Rattle.log_forms.specs.declared.names.FormName.TheVariants.{Spark, SyslogYear, Modsecurity, Php, HourOffset, CiscoUtc, Cisco, Asa, Nxos}
use Rattle.log_forms.specs.declared.names.FormName.TheVariants.{Django, Splunk, Clickhouse, Suricata, Redis28, Glog}
use Rattle.log_forms.specs.declared.local_forms.TheConstants.{HAPROXY, NGINX_ERROR, LOCAL_COMMA, LOCAL, TWO_SPACES, APACHE_ERROR, REDIS, TOMCAT, ERLANG, BGL}
use Rattle.log_forms.specs.declared.local_forms.TheConstants.{MYSQL_5_6, HDFS, SPARK, SYSLOG_YEAR, ASA, NXOS, DJANGO, CLICKHOUSE, SURICATA, GLOG}
use Rattle.log_forms.specs.declared.offset_forms.TheConstants.{RFC3339, RFC3339_COMMA, JOURNALD, RFC5424, GIT, POSTGRES, CLF, GIT_DEFAULT, DATE, RFC2822}
use Rattle.log_forms.specs.declared.offset_forms.TheConstants.{RFC5424_LEAD, CISCO_UTC_LEAD, MODSECURITY, PHP, HOUR_OFFSET, CISCO_UTC, SPLUNK}
use Rattle.log_forms.specs.declared.short_forms.TheConstants.{RFC3164, SYSLOG, KLOG, ANDROID, UNIX, UNIX_MS, UNIX_US, UNIX_NS, RFC3164_LEAD, KLOG_LEAD}
use Rattle.log_forms.specs.declared.short_forms.TheConstants.{CISCO_LEAD, CISCO, REDIS_2_8}

-- the name of a form
abbrev pub form_name : FormName → List ℕ
form_name Rfc3339 = codes "rfc3339"
form_name Rfc3339Comma = codes "rfc3339-comma"
form_name Journald = codes "journald"
form_name Rfc5424 = codes "rfc5424"
form_name Rfc3164 = codes "rfc3164"
form_name Git = codes "git"
form_name Postgres = codes "postgres"
form_name Clf = codes "clf"
form_name GitDefault = codes "git-default"
form_name Date = codes "date"
form_name Rfc2822 = codes "rfc2822"
form_name Haproxy = codes "haproxy"
form_name NginxError = codes "nginx-error"
form_name LocalComma = codes "local-comma"
form_name Local = codes "local"
form_name TwoSpaces = codes "two-spaces"
form_name ApacheError = codes "apache-error"
form_name Redis = codes "redis"
form_name Tomcat = codes "tomcat"
form_name Erlang = codes "erlang"
form_name Bgl = codes "bgl"
form_name Syslog = codes "syslog"
form_name Klog = codes "klog"
form_name Android = codes "android"
form_name SyslogYear = codes "syslog-year"
form_name Modsecurity = codes "modsecurity"
form_name Php = codes "php"
form_name HourOffset = codes "hour-offset"
form_name CiscoUtc = codes "cisco-utc"
form_name Cisco = codes "cisco"
form_name Asa = codes "asa"
form_name Nxos = codes "nxos"
form_name Django = codes "django"
form_name Splunk = codes "splunk"
form_name Clickhouse = codes "clickhouse"
form_name Suricata = codes "suricata"
form_name Redis28 = codes "redis-2.8"
form_name Glog = codes "glog"
form_name Unix = codes "unix"
form_name UnixMs = codes "unix-ms"
form_name UnixUs = codes "unix-us"
form_name UnixNs = codes "unix-ns"
form_name Mysql56 = codes "mysql-5.6"
form_name Hdfs = codes "hdfs"
form_name Spark = codes "spark"

-- a sample of a form
abbrev pub sample_of : FormName → List ℕ
sample_of Rfc3339 = codes "2024-02-29T12:00:00.5+05:30"
sample_of Rfc3339Comma = codes "2024-02-29T12:00:00,5+05:30"
sample_of Journald = codes "2024-02-29T12:00:00+0530"
sample_of Rfc5424 = codes "<34>1 2024-02-29T12:00:00.003Z"
sample_of Rfc3164 = codes "<34>Feb 29 12:00:00"
sample_of Git = codes "2024-02-29 12:00:00 +0530"
sample_of Postgres = codes "2024-02-29 12:00:00.123 UTC"
sample_of Clf = codes "29/Feb/2024:12:00:00 +0530"
sample_of GitDefault = codes "Thu Feb 29 12:00:00 2024 +0530"
sample_of Date = codes "Thu Feb 29 12:00:00 UTC 2024"
sample_of Rfc2822 = codes "Thu, 29 Feb 2024 12:00:00 +0530"
sample_of Haproxy = codes "29/Feb/2024:12:00:00.123"
sample_of NginxError = codes "2024/02/29 12:00:00"
sample_of LocalComma = codes "2024-02-29 12:00:00,123"
sample_of Local = codes "2024-02-29 12:00:00.123"
sample_of TwoSpaces = codes "2024-02-29  12:00:00"
sample_of ApacheError = codes "Thu Feb 29 12:00:00.123456 2024"
sample_of Redis = codes "29 Feb 2024 12:00:00.123"
sample_of Tomcat = codes "29-Feb-2024 12:00:00.123"
sample_of Erlang = codes "29-Feb-2024::12:00:00"
sample_of Bgl = codes "2024-02-29-12.00.00.123456"
sample_of Syslog = codes "Feb 29 12:00:00"
sample_of Klog = codes "I0229 12:00:00.123456"
sample_of Android = codes "02-29 12:00:00.123"
sample_of SyslogYear = codes "Feb 29 12:00:00 2024"
sample_of Modsecurity = codes "29/Feb/2024:12:00:00.123456 +0530"
sample_of Php = codes "29-Feb-2024 12:00:00 UTC"
sample_of HourOffset = codes "2024-02-29 12:00:00.123 -03"
sample_of CiscoUtc = codes "*Feb 29 12:00:00.123 UTC"
sample_of Cisco = codes "*Feb 29 12:00:00.123"
sample_of Asa = codes "Feb 29 2024 12:00:00"
sample_of Nxos = codes "2024 Feb 29 12:00:00"
sample_of Django = codes "29/Feb/2024 12:00:00"
sample_of Splunk = codes "02-29-2024 12:00:00.123 +0530"
sample_of Clickhouse = codes "2024.02.29 12:00:00.123456"
sample_of Suricata = codes "02/29/2024-12:00:00.123456"
sample_of Redis28 = codes "29 Feb 12:00:00.123"
sample_of Glog = codes "I20240229 12:00:00.123456"
sample_of Unix = codes "1709188200.123"
sample_of UnixMs = codes "1709188200123"
sample_of UnixUs = codes "1709188200123456"
sample_of UnixNs = codes "1709188200123456789"
sample_of Mysql56 = codes "240229 12:00:00"
sample_of Hdfs = codes "240229 120000"
sample_of Spark = codes "24/02/29 12:00:00"

-- the items of a form
abbrev pub items_of : FormName → List Item
items_of Rfc3339 = RFC3339
items_of Rfc3339Comma = RFC3339_COMMA
items_of Journald = JOURNALD
items_of Rfc5424 = RFC5424
items_of Rfc3164 = RFC3164
items_of Git = GIT
items_of Postgres = POSTGRES
items_of Clf = CLF
items_of GitDefault = GIT_DEFAULT
items_of Date = DATE
items_of Rfc2822 = RFC2822
items_of Haproxy = HAPROXY
items_of NginxError = NGINX_ERROR
items_of LocalComma = LOCAL_COMMA
items_of Local = LOCAL
items_of TwoSpaces = TWO_SPACES
items_of ApacheError = APACHE_ERROR
items_of Redis = REDIS
items_of Tomcat = TOMCAT
items_of Erlang = ERLANG
items_of Bgl = BGL
items_of Syslog = SYSLOG
items_of Klog = KLOG
items_of Android = ANDROID
items_of SyslogYear = SYSLOG_YEAR
items_of Modsecurity = MODSECURITY
items_of Php = PHP
items_of HourOffset = HOUR_OFFSET
items_of CiscoUtc = CISCO_UTC
items_of Cisco = CISCO
items_of Asa = ASA
items_of Nxos = NXOS
items_of Django = DJANGO
items_of Splunk = SPLUNK
items_of Clickhouse = CLICKHOUSE
items_of Suricata = SURICATA
items_of Redis28 = REDIS_2_8
items_of Glog = GLOG
items_of Unix = UNIX
items_of UnixMs = UNIX_MS
items_of UnixUs = UNIX_US
items_of UnixNs = UNIX_NS
items_of Mysql56 = MYSQL_5_6
items_of Hdfs = HDFS
items_of Spark = SPARK

-- the items before a stamp, which are no part of it
abbrev pub lead_of : FormName → List Item
lead_of Rfc3339 = []
lead_of Rfc3339Comma = []
lead_of Journald = []
lead_of Rfc5424 = RFC5424_LEAD
lead_of Rfc3164 = RFC3164_LEAD
lead_of Git = []
lead_of Postgres = []
lead_of Clf = []
lead_of GitDefault = []
lead_of Date = []
lead_of Rfc2822 = []
lead_of Haproxy = []
lead_of NginxError = []
lead_of LocalComma = []
lead_of Local = []
lead_of TwoSpaces = []
lead_of ApacheError = []
lead_of Redis = []
lead_of Tomcat = []
lead_of Erlang = []
lead_of Bgl = []
lead_of Syslog = []
lead_of Klog = KLOG_LEAD
lead_of Android = []
lead_of SyslogYear = []
lead_of Modsecurity = []
lead_of Php = []
lead_of HourOffset = []
lead_of CiscoUtc = CISCO_UTC_LEAD
lead_of Cisco = CISCO_LEAD
lead_of Asa = CISCO_UTC_LEAD
lead_of Nxos = []
lead_of Django = []
lead_of Splunk = []
lead_of Clickhouse = []
lead_of Suricata = []
lead_of Redis28 = []
lead_of Glog = KLOG_LEAD
lead_of Unix = []
lead_of UnixMs = []
lead_of UnixUs = []
lead_of UnixNs = []
lead_of Mysql56 = []
lead_of Hdfs = []
lead_of Spark = []

-- the number of the items before the digits that are counted
abbrev pub ahead_of : FormName → ℕ
ahead_of Rfc3339 = 0
ahead_of Rfc3339Comma = 0
ahead_of Journald = 0
ahead_of Rfc5424 = 0
ahead_of Rfc3164 = 0
ahead_of Git = 0
ahead_of Postgres = 0
ahead_of Clf = 4
ahead_of GitDefault = 15
ahead_of Date = 20
ahead_of Rfc2822 = 11
ahead_of Haproxy = 4
ahead_of NginxError = 0
ahead_of LocalComma = 0
ahead_of Local = 0
ahead_of TwoSpaces = 0
ahead_of ApacheError = 18
ahead_of Redis = 4
ahead_of Tomcat = 4
ahead_of Erlang = 4
ahead_of Bgl = 0
ahead_of Syslog = 0
ahead_of Klog = 0
ahead_of Android = 0
ahead_of SyslogYear = 16
ahead_of Modsecurity = 4
ahead_of Php = 4
ahead_of HourOffset = 0
ahead_of CiscoUtc = 0
ahead_of Cisco = 0
ahead_of Asa = 7
ahead_of Nxos = 0
ahead_of Django = 4
ahead_of Splunk = 4
ahead_of Clickhouse = 0
ahead_of Suricata = 4
ahead_of Redis28 = 0
ahead_of Glog = 0
ahead_of Unix = 0
ahead_of UnixMs = 0
ahead_of UnixUs = 0
ahead_of UnixNs = 0
ahead_of Mysql56 = 0
ahead_of Hdfs = 0
ahead_of Spark = 0

-- how many digits a text has after these items, if they are counted
abbrev pub digits_of : FormName → Option ℕ
digits_of Rfc3339 = Some 4
digits_of Rfc3339Comma = Some 4
digits_of Journald = Some 4
digits_of Rfc5424 = Some 4
digits_of Rfc3164 = None
digits_of Git = Some 4
digits_of Postgres = Some 4
digits_of Clf = Some 4
digits_of GitDefault = Some 4
digits_of Date = Some 4
digits_of Rfc2822 = Some 4
digits_of Haproxy = Some 4
digits_of NginxError = Some 4
digits_of LocalComma = Some 4
digits_of Local = Some 4
digits_of TwoSpaces = Some 4
digits_of ApacheError = Some 4
digits_of Redis = Some 4
digits_of Tomcat = Some 4
digits_of Erlang = Some 4
digits_of Bgl = Some 4
digits_of Syslog = None
digits_of Klog = Some 4
digits_of Android = Some 2
digits_of SyslogYear = Some 4
digits_of Modsecurity = Some 4
digits_of Php = Some 4
digits_of HourOffset = Some 4
digits_of CiscoUtc = None
digits_of Cisco = None
digits_of Asa = Some 4
digits_of Nxos = Some 4
digits_of Django = Some 4
digits_of Splunk = Some 4
digits_of Clickhouse = Some 4
digits_of Suricata = Some 4
digits_of Redis28 = None
digits_of Glog = Some 8
digits_of Unix = Some 10
digits_of UnixMs = Some 13
digits_of UnixUs = Some 16
digits_of UnixNs = Some 19
digits_of Mysql56 = Some 6
digits_of Hdfs = Some 6
digits_of Spark = Some 2

-- the first of these forms that has a name
unfoldable pub name_in : List FormName → List ℕ → Option FormName
name_in [] text = None
name_in (name ∷ names) text = if bytes_eq (form_name name) text then Some name else name_in names text

-- the form of a name
abbrev pub form_named : FormName → Form
form_named name = record { lead = lead_of name; items = items_of name; ahead = ahead_of name; digits = digits_of name }

-- the form of items, with nothing before a stamp
abbrev pub form_of : List Item → Form
form_of items = record { lead = []; items = items; ahead = 0; digits = None }
