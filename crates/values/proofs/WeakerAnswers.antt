-- What is said of an answer, said less strongly.
use Rattle.std.proofs.Common.{Result, Ok, Err, IfOk, IfErr, OnOk}

pub if-err-as : {A E : Type 0} (r : Result A E) (P Q : E → Type 0) → ((e : E) → P e → Q e) → IfErr r P → IfErr r Q
if-err-as (Ok x) P Q h p = tt
if-err-as (Err e) P Q h p = h e p

pub if-ok-as : {A E : Type 0} (r : Result A E) (P Q : A → Type 0) → ((x : A) → P x → Q x) → IfOk r P → IfOk r Q
if-ok-as (Ok x) P Q h p = h x p
if-ok-as (Err e) P Q h p = tt

pub on-ok-as : {A E : Type 0} (r : Result A E) (P Q : Type 0) → (P → Q) → OnOk r P → OnOk r Q
on-ok-as (Ok x) P Q h p = h p
on-ok-as (Err e) P Q h p = tt
