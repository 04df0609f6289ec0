use Rattle.std.proofs.Common.{refl}
use Rattle.log_forms.specs.Forms.{name_in}
use Rattle.log_forms.specs.declared.names.FormName.TheVariants.{Rfc3339, Rfc3339Comma, Journald, Rfc5424, Rfc3164, Git, Postgres, Clf, GitDefault, Date}
use Rattle.log_forms.specs.declared.names.FormName.TheVariants.{Rfc2822, Haproxy, NginxError, LocalComma, Local, TwoSpaces, ApacheError, Redis, Tomcat, Erlang}
use Rattle.log_forms.specs.declared.names.FormName.TheVariants.{Bgl, Syslog, Klog, Android, Unix, UnixMs, UnixUs, UnixNs, Mysql56, Hdfs}
use Rattle.log_forms.specs.declared.names.FormName.TheVariants.{Spark, SyslogYear, Modsecurity, Php, HourOffset, CiscoUtc, Cisco, Asa, Nxos}
use Rattle.log_forms.specs.declared.names.FormName.TheVariants.{Django, Splunk, Clickhouse, Suricata, Redis28, Glog}
use Rattle.log_forms.proofs.laws.names_find_their_forms.Goals as goal

pub returns : goal.returns
unfolding name_in
returns c Rfc3339 = refl
returns c Rfc3339Comma = refl
returns c Journald = refl
returns c Rfc5424 = refl
returns c Rfc3164 = refl
returns c Git = refl
returns c Postgres = refl
returns c Clf = refl
returns c GitDefault = refl
returns c Date = refl
returns c Rfc2822 = refl
returns c Haproxy = refl
returns c NginxError = refl
returns c LocalComma = refl
returns c Local = refl
returns c TwoSpaces = refl
returns c ApacheError = refl
returns c Redis = refl
returns c Tomcat = refl
returns c Erlang = refl
returns c Bgl = refl
returns c Syslog = refl
returns c Klog = refl
returns c Android = refl
returns c SyslogYear = refl
returns c Modsecurity = refl
returns c Php = refl
returns c HourOffset = refl
returns c CiscoUtc = refl
returns c Cisco = refl
returns c Asa = refl
returns c Nxos = refl
returns c Django = refl
returns c Splunk = refl
returns c Clickhouse = refl
returns c Suricata = refl
returns c Redis28 = refl
returns c Glog = refl
returns c Unix = refl
returns c UnixMs = refl
returns c UnixUs = refl
returns c UnixNs = refl
returns c Mysql56 = refl
returns c Hdfs = refl
returns c Spark = refl
