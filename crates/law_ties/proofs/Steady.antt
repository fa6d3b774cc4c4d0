-- Entries that put nothing, take nothing and unbind not all: what the host tells, what the controller tells but of a reset, and the words of plugs.
use Rattle.std.proofs.Common.{ℕ, List, [], ◌∷◌, ◌++◌, sym, subst}
use Rattle.mpt_trace.specs.declared.entry.Entry.{Entry}
use Rattle.mpt_trace.specs.declared.entry.Entry.TheVariants as entry
use Rattle.mpt_trace.specs.declared.input.Input.{Input}
use Rattle.mpt_trace.specs.declared.item.Back.{Back}
use Rattle.mpt_trace.specs.declared.item.Up.{Up}
use Rattle.mpt_wire.specs.Walks.Passes.{EachEntry}
use Rattle.mpt_rules.specs.declared.post.Post.{Post}
use Rattle.mpt_rules.specs.Host.Parts.{Host}
use Rattle.mpt_rules.specs.Host.Takes.{hears_up}
use Rattle.mpt_rules.specs.Ioc.Parts.{Ioc}
use Rattle.mpt_rules.specs.Ioc.Back.{takes_back}
use Rattle.mpt_rules.specs.Ioc.Steps.{works_on}
use Rattle.mpt_rules.specs.World.Inputs.{host_told}
use Rattle.law_moves.proofs.CasesTold.{IsPlugWord}
use Rattle.law_moves.proofs.HostWords.{EndsIt, HostTells, IsHostWord, Words, host_tells}
use Rattle.law_moves.proofs.InputWords.{IsInputWord, any_of, input_words}
use Rattle.law_moves.proofs.IocWords.{IsIocWord, back_words, works_words}

abbrev pub IsSteady : Entry → Type 0
IsSteady (entry.Put l i) = ⊥
IsSteady (entry.Take l i) = ⊥
IsSteady entry.UnbindAll = ⊥
IsSteady _ = Unit {0}

-- what each entry of a list has, where each is of a kind that has it
pub each_as : (P Q : Entry → Type 0) → ((e : Entry) → P e → Q e) → (t : List Entry) → EachEntry P t → EachEntry Q t
each_as P Q f [] h = tt
each_as P Q f (e ∷ t) h = (f e h.0, each_as P Q f t h.1)

host_word : (e : Entry) → IsHostWord e → IsSteady e
host_word entry.HostUp h = tt
host_word (entry.Ready address handle) h = tt
host_word (entry.Lost address handle) h = tt
host_word (entry.Answer n how) h = tt
host_word (entry.AbortEnd n how) h = tt
host_word (entry.TargetEnd address how) h = tt
host_word (entry.Put l i) h = absurd h
host_word (entry.Take l i) h = absurd h
host_word (entry.Given i) h = absurd h
host_word (entry.Refuse call cause) h = absurd h
host_word (entry.Idle x) h = absurd h
host_word (entry.Bind handle address plug) h = absurd h
host_word (entry.Unbind handle) h = absurd h
host_word entry.UnbindAll h = absurd h
host_word (entry.Run address tag) h = absurd h
host_word (entry.Accept n address smid) h = absurd h
host_word (entry.RefuseSubmit n cause) h = absurd h
host_word entry.ResetDone h = absurd h

host_all : (t : List Entry) → EachEntry IsHostWord t → EachEntry IsSteady t
host_all = each_as IsHostWord IsSteady host_word

with_end : (t : List Entry) → EachEntry IsSteady t → EachEntry IsSteady (t ++ entry.ResetDone ∷ [])
with_end [] h = (tt, tt)
with_end (e ∷ t) h = (h.0, with_end t h.1)

telling : (t : List Entry) → HostTells t → EachEntry IsSteady t
telling t (Words w) = host_all t w
telling t (EndsIt told w e) = subst (EachEntry IsSteady) (sym e) (with_end told (host_all told w))

pub steady_item : (host : Host) (queue : ℕ) (x : Up) → EachEntry IsSteady (hears_up host queue x).entries
steady_item host queue x = telling (hears_up host queue x).entries (host_tells host queue x)

input_word : (e : Entry) → IsInputWord e → IsSteady e
input_word = any_of IsSteady (λ i. tt) (λ n address smid. tt) (λ n c. tt) (λ r c. tt)

pub steady_input : (host : Host) (i : Input) → EachEntry IsSteady (host_told host i).entries
steady_input host i = each_as IsInputWord IsSteady input_word (host_told host i).entries (input_words host i)

ioc_word : (e : Entry) → IsIocWord e → IsSteady e
ioc_word (entry.Bind handle address plug) h = tt
ioc_word (entry.Unbind handle) h = tt
ioc_word entry.HostUp h = absurd h
ioc_word (entry.Ready address handle) h = absurd h
ioc_word (entry.Lost address handle) h = absurd h
ioc_word (entry.Answer n how) h = absurd h
ioc_word (entry.AbortEnd n how) h = absurd h
ioc_word (entry.TargetEnd address how) h = absurd h
ioc_word (entry.Put l i) h = absurd h
ioc_word (entry.Take l i) h = absurd h
ioc_word (entry.Given i) h = absurd h
ioc_word (entry.Refuse call cause) h = absurd h
ioc_word (entry.Idle x) h = absurd h
ioc_word entry.UnbindAll h = absurd h
ioc_word (entry.Run address tag) h = absurd h
ioc_word (entry.Accept n address smid) h = absurd h
ioc_word (entry.RefuseSubmit n cause) h = absurd h
ioc_word entry.ResetDone h = absurd h

pub steady_work : (ioc : Ioc) (p : Post) → EachEntry IsSteady (works_on ioc p).entries
steady_work ioc p = each_as IsIocWord IsSteady ioc_word (works_on ioc p).entries (works_words ioc p)

pub steady_back : (ioc : Ioc) (x : Back) → EachEntry IsSteady (takes_back ioc x).entries
steady_back ioc x = each_as IsIocWord IsSteady ioc_word (takes_back ioc x).entries (back_words ioc x)

plug_word : (e : Entry) → IsPlugWord e → IsSteady e
plug_word (entry.Given i) h = tt
plug_word (entry.Refuse call cause) h = tt
plug_word (entry.Bind handle address plug) h = absurd h
plug_word (entry.Unbind handle) h = absurd h
plug_word entry.HostUp h = absurd h
plug_word (entry.Ready address handle) h = absurd h
plug_word (entry.Lost address handle) h = absurd h
plug_word (entry.Answer n how) h = absurd h
plug_word (entry.AbortEnd n how) h = absurd h
plug_word (entry.TargetEnd address how) h = absurd h
plug_word (entry.Put l i) h = absurd h
plug_word (entry.Take l i) h = absurd h
plug_word (entry.Idle x) h = absurd h
plug_word entry.UnbindAll h = absurd h
plug_word (entry.Run address tag) h = absurd h
plug_word (entry.Accept n address smid) h = absurd h
plug_word (entry.RefuseSubmit n cause) h = absurd h
plug_word entry.ResetDone h = absurd h

pub steady_plug : (t : List Entry) → EachEntry IsPlugWord t → EachEntry IsSteady t
steady_plug = each_as IsPlugWord IsSteady plug_word
